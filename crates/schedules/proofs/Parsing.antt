-- A schedule that grows by what is read, and what its text is.
use Rattle.std.proofs.Common.{◌≡◌, ◌≢◌, ℕ, ◌+◌, ◌<◌, ◌≤◌, List, [], ◌∷◌, ◌++◌, length, Some, None, Ok, Err, refl, sym, ap, subst, ◌∙◌, inr, arith}
use Rattle.std.proofs.lemmas.List.{length-append}
use Rattle.machine.specs.State.{AreSizes, most_processors}
use Rattle.schedules.specs.Kept.{IsKept, entry_of, seen, taken}
use Rattle.schedules.specs.Reading.{entry_at, header_at, sizes_at}
use Rattle.schedules.specs.Refusals.{BeginsEntry, Explains, Refuses, flaw_of, IsHeaded, WantsMemory}
use Rattle.schedules.specs.Schedules.{Act, picks, Entry, IsAct, IsSchedule, SchedText, Schedule, entry_text, header, line_before, text_before, with_entry}
use Rattle.schedules.specs.declared.entry.Version.{Version}
use Rattle.schedules.specs.declared.flaw.Flaw.{Flaw}
use Rattle.schedules.specs.declared.flaw.Flaw.TheVariants.{Header}
use Rattle.schedules.specs.declared.reading.NoEntry.{NoEntry}
use Rattle.schedules.specs.declared.reading.NoEntry.TheVariants.{Form, Processor}
use Rattle.schedules.specs.declared.refusal.ReplayRefusal.{ReplayRefusal}
use Rattle.schedules.specs.declared.refusal.ReplayRefusal.TheVariants.{Memory, Refused}
use Rattle.schedules.specs.declared.short.Short.{Short}
use Rattle.schedules.specs.declared.short.Short.TheVariants.{PickIteration}
use Rattle.schedules.proofs.Keeping.{kept_kept, kept_pushed, length_entries, seen_kept, seen_pushed}
use Rattle.schedules.proofs.Texts.{entry_sound, header_sound, no_form, no_processor, sizes_again, sizes_sound}
use Rattle.schedules.proofs.Wholes.{refused_only, text_pushed}

module _ (v : Version) (p n : ℕ) (ss : List Short) (ks : List ℕ) (x : Schedule) (kept : IsKept v p n ss ks) (is : seen v p n ss ks ≡ x) where
  is_schedule : IsSchedule x
  is_schedule = subst (λ (y : Schedule). IsSchedule y) is kept.schedule

  here : (q : ℕ) → q < x.processors → q < p
  here q below = subst (λ (y : Schedule). q < y.processors) (sym is) below

  may : (a : Act) → IsAct x.version a → IsAct v a
  may a allowed = subst (λ (y : Schedule). IsAct y.version a) (sym is) allowed

  -- an entry that takes no number
  module _ (s : Short) (new : List Short) (t : taken s ≡ 0) (grown : new ≡ ss ++ s ∷ []) where
    pub keeps_one : (entry_of s []).processor < x.processors → IsAct x.version (entry_of s []).act → IsKept v p n new ks
    keeps_one below allowed =
        subst (λ (ts : List Short). IsKept v p n ts ks) (sym grown)
        (kept_kept v p n ss s ks kept t (here (entry_of s []).processor below) (may (entry_of s []).act allowed))

    pub sees_one : seen v p n new ks ≡ with_entry x (entry_of s [])
    sees_one =
        ap (λ (ts : List Short). seen v p n ts ks) grown ∙ seen_kept v p n ss s ks kept
        ∙ ap (λ (y : Schedule). with_entry y (entry_of s [])) is

  -- the pick of an iteration
  module _ (q k : ℕ) (new : List Short) (more : List ℕ) (grown : new ≡ ss ++ PickIteration q ∷ []) (longer : more ≡ ks ++ k ∷ []) where
    pub keeps_pick : q < x.processors → IsAct x.version (picks k) → IsKept v p n new more
    keeps_pick below allowed =
        subst (λ (ts : List Short). IsKept v p n ts more) (sym grown)
        (subst (λ (ls : List ℕ). IsKept v p n (ss ++ PickIteration q ∷ []) ls) (sym longer)
        (kept_pushed v p n ss (PickIteration q) ks (k ∷ []) kept refl (here q below) (may (picks k) allowed)))

    pub sees_pick : seen v p n new more ≡ with_entry x (record { processor = q; act = picks k })
    sees_pick =
        ap (λ (ts : List Short). seen v p n ts more) grown ∙ ap (λ (ls : List ℕ). seen v p n (ss ++ PickIteration q ∷ []) ls) longer
        ∙ seen_pushed v p n ss (PickIteration q) ks (k ∷ []) kept
        ∙ ap (λ (y : Schedule). with_entry y (record { processor = q; act = picks k })) is

  -- what is read behind it
  module _ (t : List ℕ) where
    few : p ≤ most_processors
    few = kept.schedule.0.0.1

    pub reads_allowed : (e : Entry) (rest : List ℕ) → entry_at v p t ≡ Ok (e, rest) → IsAct x.version e.act
    reads_allowed e rest r = subst (λ (y : Schedule). IsAct y.version e.act) is (entry_sound v p t (e, rest) few r).allowed

    pub reads_text : (e : Entry) (rest : List ℕ) (new : Schedule) → entry_at v p t ≡ Ok (e, rest) → new ≡ with_entry x e
        → (length rest < length t) × (text_before new rest ≡ text_before x t)
    reads_text e rest new r grown =
        let read = entry_sound v p t (e, rest) few r in (
          omega (arith, ap length read.is, length-append (entry_text e) (10 ∷ rest)),
          ap (λ (y : Schedule). text_before y rest) grown ∙ text_pushed x e rest ∙ ap (text_before x) (sym read.is),
        )

    reads_none : (fault : NoEntry) → t ≢ [] → entry_at v p t ≡ Err fault → Refuses (text_before x t) (flaw_of fault) (3 + length ss)
    reads_none Form some r =
        let at : 3 + length ss ≡ 3 + length x.entries = ap (λ (m : ℕ). 3 + m) (sym (length_entries ss ks)) ∙ ap (λ (y : Schedule). 3 + length y.entries) is in
        record {
          before = x;
          rest = t;
          goes_on = record { schedule = is_schedule; is = refl; some = some; at = at };
          none = subst (λ (y : Schedule). (q : ℕ) → BeginsEntry y.version q t → ⊥) is (no_form v p t r);
        }
    reads_none Processor some r =
        let at : 3 + length ss ≡ 3 + length x.entries = ap (λ (m : ℕ). 3 + m) (sym (length_entries ss ks)) ∙ ap (λ (y : Schedule). 3 + length y.entries) is in
        let no = no_processor v p t few r in
        record {
          before = x;
          rest = t;
          goes_on = record { schedule = is_schedule; is = refl; some = some; at = at };
          processor = no.0;
          entry = subst (λ (y : Schedule). BeginsEntry y.version no.0 t) is no.1;
          absent = subst (λ (y : Schedule). y.processors ≤ no.0) is no.2;
        }

    pub reads_no_entry : (fault : NoEntry) (flaw : Flaw) (count : ℕ) → t ≢ [] → entry_at v p t ≡ Err fault → flaw ≡ flaw_of fault → count ≡ length ss
        → Refuses (text_before x t) flaw (3 + count)
    reads_no_entry fault flaw count some r e f =
        subst (λ (w : Flaw). Refuses (text_before x t) w (3 + count)) (sym e)
        (subst (λ (m : ℕ). Refuses (text_before x t) (flaw_of fault) (3 + m)) (sym f) (reads_none fault some r))

-- ---- the first lines

pub no_sizes : (bytes : List ℕ) (v : Version) (rest : List ℕ) → header_at bytes ≡ Some (v, rest) → sizes_at rest ≡ None → Refuses bytes Header 2
no_sizes bytes v rest e f =
    inr (
      refl,
      record {
        version = v;
        rest = rest;
        headed = header_sound bytes (v, rest) e;
        none = λ p s behind sizes is. let k : sizes_at rest ≡ Some (p, s, behind) = ap sizes_at is ∙ sizes_again p s behind sizes in absurd cc;
      },
    )

pub opened : (bytes : List ℕ) (v : Version) (rest : List ℕ) (p s : ℕ) (behind : List ℕ) → header_at bytes ≡ Some (v, rest) → sizes_at rest ≡ Some (p, s, behind)
    → AreSizes p s × (bytes ≡ text_before (record { version = v; processors = p; slots = s; entries = [] }) behind)
opened bytes v rest p s behind e f =
    let sizes = sizes_sound rest (p, s, behind) f in
    (sizes.sizes, header_sound bytes (v, rest) e ∙ ap (line_before (header v)) sizes.is)

pub begun_at : (bytes : List ℕ) (v : Version) (rest : List ℕ) (p s : ℕ) (behind : List ℕ) (x : Schedule) → header_at bytes ≡ Some (v, rest) → sizes_at rest ≡ Some (p, s, behind)
    → x ≡ record { version = v; processors = p; slots = s; entries = [] } → bytes ≡ text_before x behind
begun_at bytes v rest p s behind x e f new = (opened bytes v rest p s behind e f).1 ∙ ap (λ (y : Schedule). text_before y behind) (sym new)

pub headed : (bytes : List ℕ) (v : Version) (rest : List ℕ) (p s : ℕ) (behind : List ℕ) → header_at bytes ≡ Some (v, rest) → sizes_at rest ≡ Some (p, s, behind) → IsHeaded bytes
headed bytes v rest p s behind e f =
    let first = opened bytes v rest p s behind e f in
    record { version = v; processors = p; slots = s; sizes = first.0; rest = behind; is = first.1 }

-- ---- refusals

pub wants_where : (fault : ReplayRefusal) (P : Type 0) → P → WantsMemory fault P
wants_where Memory P h = h
wants_where (Refused flaw line) P h = tt

pub at_bytes : (t bytes : List ℕ) (fault : ReplayRefusal) → bytes ≡ t → Explains fault (λ flaw line. Refuses t flaw line) → Explains fault (λ flaw line. Refuses bytes flaw line)
at_bytes t bytes Memory e h = tt
at_bytes t bytes (Refused flaw line) e h = subst (λ (u : List ℕ). Refuses u flaw line) (sym e) h

pub only_refused : (bytes : List ℕ) (fault : ReplayRefusal) → Explains fault (λ flaw line. Refuses bytes flaw line)
    → Explains fault (λ flaw line. (x : Schedule) → SchedText x bytes → ⊥)
only_refused bytes Memory h = tt
only_refused bytes (Refused flaw line) h = refused_only bytes flaw line h
