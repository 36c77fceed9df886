-- Blocks of entries, one after another.
use Rattle.std.proofs.Common.{◌≡◌, ◌∙◌, ℕ, suc, ◌+◌, List, [], ◌∷◌, ◌++◌, length, Option, take, drop, refl, sym, ap, subst, append_assoc, append-nil, arith}
use Rattle.std.proofs.KnownBytes.{Appends-nil, Appends-trans}
use Rattle.std.proofs.lemmas.List.{length-append, take-append-drop}
use Rattle.std.specs.Io.KnownBytes.{Appends}
use Rattle.std.specs.Prelude.{IfErr, OnOk, Result, Ok, Err}
use Rattle.machine.specs.Code.{Code}
use Rattle.schedules.specs.Refusals.{Explains}
use Rattle.schedules.specs.Schedules.{Act, AreEntries, Entry, Schedule}
use Rattle.schedules.specs.declared.entry.Version.{Version}
use Rattle.schedules.specs.declared.refusal.ReplayRefusal.{ReplayRefusal}
use Rattle.schedules.specs.declared.refusal.ReplayRefusal.TheVariants.{Memory, Refused}
use Rattle.activities.specs.Activities.{AreActivities, AreOf, Stays, code_in, point_in}
use Rattle.activities.specs.Points.{Point}
use Rattle.activities.specs.declared.holding.Activities.{Activities}
use Rattle.replay.proofs.Followed.{cannot_here, made_here, stays_on}
use Rattle.replay.specs.Making.{MadeAs}
use Rattle.replay.specs.Replayed.{CannotBeMade}
use Rattle.replay.specs.Replays.{Does, Leads}
use Rattle.state_lines.specs.States.{block}
use Rattle.states.specs.Followed.{AreShown, Falls, Halts, IsPartShown, Shows}
use Rattle.states.specs.declared.following.Halt.{Halt}
use Rattle.states.specs.declared.following.Halt.TheVariants.{Replay, Writing}

-- one entry more
shows_more : (v : Version) (code : Code) (p s line n : ℕ) (a b c : Point) (es : List Entry) (e : Entry) (text : List ℕ) → n ≡ line + length es → Shows v code p s line a es b text → Does v code s e.act b e.processor c
    → Shows v code p s line a (es ++ e ∷ []) c (text ++ block code p n e (length b.machine.output) c)
shows_more v code p s line n a b c [] e text h k d =
    let here : n ≡ line = omega (arith, h) in
    let more = block code p n e (length b.machine.output) c in
    subst (λ (x : Point). Shows v code p s line x (e ∷ []) c (text ++ more)) (sym k.0)
    (c, d, [], ap (λ (t : List ℕ). t ++ more) k.1 ∙ ap (λ (m : ℕ). block code p m e (length b.machine.output) c) here ∙ sym (append-nil (block code p line e (length b.machine.output) c)), (refl, refl))
shows_more v code p s line n a b c (x ∷ es) e text h k d =
    let more = block code p n e (length b.machine.output) c in (
      k.0,
      k.1,
      k.2 ++ more,
      ap (λ (t : List ℕ). t ++ more) k.3 ∙ append_assoc (block code p line x (length a.machine.output) k.0) k.2 more,
      shows_more v code p s (suc line) n k.0 b c es e k.2 (omega (arith, h)) k.4 d,
    )

-- what holds before each entry: those before it were made and shown
pub record Showing (x : Schedule) (a : Activities) (rest : List Entry) (line : ℕ) (b : Activities) (old new : Option (List ℕ)) : Type 0 where
  pub front : List Entry
  pub is : x.entries ≡ front ++ rest
  pub at : line ≡ 3 + length front
  pub text : List ℕ
  pub shows : Shows x.version (code_in a) x.processors x.slots 3 (point_in a) front (point_in b) text
  pub grown : Appends old new text
  pub entries : AreEntries x.version x.processors rest
  pub stand : AreActivities b
  pub stays : Stays a b

-- a block is that of the code and of the processors with which the run began
block_here : (x : Schedule) (a b d : Activities) (e : Entry) (line : ℕ) → AreOf (code_in a) x.processors x.slots a → Stays a d
    → block (code_in d) (length d.held.items) line e (length b.shared.output.items) (point_in d) ≡ block (code_in a) x.processors line e (length (point_in b).machine.output) (point_in d)
block_here x a b d e line of t =
    ap (λ (k : Code). block k (length d.held.items) line e (length b.shared.output.items) (point_in d)) t.code_is
    ∙ ap (λ (q : ℕ). block (code_in a) q line e (length b.shared.output.items) (point_in d)) (t.processors ∙ of.processors)

-- one entry more was made, and this is shown of it
shown_more : (x : Schedule) (a b d : Activities) (more : List Entry) (e : Entry) (line : ℕ) (y : Act) (o m : Option (List ℕ)) → AreOf (code_in a) x.processors x.slots a → (h : Showing x a (e ∷ more) line b o m)
    → MadeAs x.version (code_in b) b.slots e.act (point_in b) e.processor y (point_in d)
    → Shows x.version (code_in a) x.processors x.slots 3 (point_in a) (h.front ++ e ∷ []) (point_in d) (h.text ++ block (code_in a) x.processors line e (length (point_in b).machine.output) (point_in d))
shown_more x a b d more e line y o m of h made =
    shows_more x.version (code_in a) x.processors x.slots 3 line (point_in a) (point_in b) (point_in d) h.front e h.text h.at h.shows
    (made_here x.version a b x.slots e.act e.processor y (point_in d) h.stays of.slots made).does

pub shows_on : (x : Schedule) (a b d : Activities) (rest more : List Entry) (e : Entry) (line : ℕ) (y : Act) (o m n : Option (List ℕ)) → AreOf (code_in a) x.processors x.slots a → Showing x a rest line b o m → rest ≡ e ∷ more
    → MadeAs x.version (code_in b) b.slots e.act (point_in b) e.processor y (point_in d) → AreActivities d → Stays b d
    → Appends m n (block (code_in d) (length d.held.items) line e (length b.shared.output.items) (point_in d)) → Showing x a more (line + 1) d o n
shows_on x a b d rest more e line y o m n of h r made i t grown =
    let g = subst (λ (es : List Entry). Showing x a es line b o m) r h in
    let same = stays_on a b d g.stays t in
    let last = block (code_in a) x.processors line e (length (point_in b).machine.output) (point_in d) in
    record {
      front = g.front ++ e ∷ [];
      is = g.is ∙ sym (append_assoc g.front (e ∷ []) more);
      at = omega (arith, g.at, length-append g.front (e ∷ []));
      text = g.text ++ last;
      shows = shown_more x a b d more e line y o m of g made;
      grown = Appends-trans o m n g.text last g.grown (subst (λ (t : List ℕ). Appends m n t) (block_here x a b d e line of same) grown);
      entries = g.entries.1;
      stand = i;
      stays = same;
    }

-- all entries were shown
pub all_shown : (x : Schedule) (a : Activities) (rest : List Entry) (line : ℕ) (b : Activities) (o n : Option (List ℕ)) → Showing x a rest line b o n → rest ≡ [] → AreShown [] x a b o n
all_shown x a rest line b o n h r = record {
  text = h.text;
  shows = subst (λ (es : List Entry). Shows x.version (code_in a) x.processors x.slots 3 (point_in a) es (point_in b) h.text) (sym (h.is ∙ ap (λ (es : List Entry). h.front ++ es) r ∙ append-nil h.front)) h.shows;
  grown = h.grown;
}

-- what was shown so far is a beginning of itself
part_shown : (x : Schedule) (a : Activities) (rest : List Entry) (line : ℕ) (b : Activities) (o n : Option (List ℕ)) → Showing x a rest line b o n → IsPartShown [] x a o n
part_shown x a rest line b o n h = record {
  rest = rest;
  point = point_in b;
  text = h.text;
  shown = record { front = h.front; is = h.is; shows = h.shows };
  got = h.text;
  begins = ([], sym (append-nil h.text));
  grown = h.grown;
}

-- the next entry isn't made
pub halted : (r : ReplayRefusal) (x : Schedule) (w : Version) (a b : Activities) (rest more : List Entry) (e : Entry) (line : ℕ) (o n : Option (List ℕ)) → w ≡ x.version → AreOf (code_in a) x.processors x.slots a → Showing x a rest line b o n → rest ≡ e ∷ more
    → Explains r (λ flaw at. (at ≡ line) × CannotBeMade w (code_in b) b.slots e.act (point_in b) e.processor flaw) → Halts [] x a o n (Replay r)
halted Memory x w a b rest more e line o n v of h r d = part_shown x a rest line b o n h
halted (Refused flaw at) x w a b rest more e line o n v of h r d =
    let g = subst (λ (es : List Entry). Showing x a es line b o n) r h in
    record {
      entry = e;
      behind = more;
      point = point_in b;
      text = g.text;
      shown = record { front = g.front; is = g.is; shows = g.shows };
      at = d.0 ∙ g.at;
      cannot = cannot_here x.version a b x.slots e.act e.processor flaw g.stays of.slots
          (subst (λ (u : Version). CannotBeMade u (code_in b) b.slots e.act (point_in b) e.processor flaw) v d.1);
      grown = g.grown;
    }

-- its block isn't written
pub fallen : (f : Halt) (x : Schedule) (a b d : Activities) (rest more : List Entry) (e : Entry) (line : ℕ) (y : Act) (o m n : Option (List ℕ)) → AreOf (code_in a) x.processors x.slots a → Showing x a rest line b o m → rest ≡ e ∷ more
    → MadeAs x.version (code_in b) b.slots e.act (point_in b) e.processor y (point_in d) → Stays b d
    → Falls m n (block (code_in d) (length d.held.items) line e (length b.shared.output.items) (point_in d)) f → Halts [] x a o n f
fallen (Replay Memory) x a b d rest more e line y o m n of h r made t f = part_shown x a rest line b o n (subst (λ (z : Option (List ℕ)). Showing x a rest line b o z) (sym f) h)
fallen (Replay (Refused flaw at)) x a b d rest more e line y o m n of h r made t f = absurd f
fallen (Writing error) x a b d rest more e line y o m n of h r made t f =
    let g = subst (λ (es : List Entry). Showing x a es line b o m) r h in
    let same = stays_on a b d g.stays t in
    let last = block (code_in a) x.processors line e (length (point_in b).machine.output) (point_in d) in
    let here = block_here x a b d e line of same in
    record {
      rest = more;
      point = point_in d;
      text = g.text ++ last;
      shown = record { front = g.front ++ e ∷ []; is = g.is ∙ sym (append_assoc g.front (e ∷ []) more); shows = shown_more x a b d more e line y o m of g made };
      got = g.text ++ take f.0 last;
      begins = (drop f.0 last, ap (λ (t : List ℕ). g.text ++ t) (sym (take-append-drop f.0 last)) ∙ sym (append_assoc g.text (take f.0 last) (drop f.0 last)));
      grown = Appends-trans o m n g.text (take f.0 last) g.grown (subst (λ (t : List ℕ). Appends m n (take f.0 t)) here f.2);
    }

-- ---- behind a first text

pub shown_behind : (first : List ℕ) (x : Schedule) (a b : Activities) (o m n : Option (List ℕ)) → Appends o m first → AreShown [] x a b m n → AreShown first x a b o n
shown_behind first x a b o m n g h = record { text = h.text; shows = h.shows; grown = Appends-trans o m n first h.text g h.grown }

part_behind : (first : List ℕ) (x : Schedule) (a : Activities) (o m n : Option (List ℕ)) → Appends o m first → IsPartShown [] x a m n → IsPartShown first x a o n
part_behind first x a o m n g h = record {
  rest = h.rest;
  point = h.point;
  text = h.text;
  shown = h.shown;
  got = first ++ h.got;
  begins = (h.begins.0, ap (λ (t : List ℕ). first ++ t) h.begins.1 ∙ sym (append_assoc first h.got h.begins.0));
  grown = Appends-trans o m n first h.got g h.grown;
}

pub halts_behind : (first : List ℕ) (f : Halt) (x : Schedule) (a : Activities) (o m n : Option (List ℕ)) → Appends o m first → Halts [] x a m n f → Halts first x a o n f
halts_behind first (Replay Memory) x a o m n g h = part_behind first x a o m n g h
halts_behind first (Replay (Refused flaw line)) x a o m n g h = record {
  entry = h.entry;
  behind = h.behind;
  point = h.point;
  text = h.text;
  shown = h.shown;
  at = h.at;
  cannot = h.cannot;
  grown = Appends-trans o m n first h.text g h.grown;
}
halts_behind first (Writing e) x a o m n g h = part_behind first x a o m n g h

-- nothing was made, and of the first text this was written
pub falls_first : (first got rest : List ℕ) (x : Schedule) (a : Activities) (o n : Option (List ℕ)) → first ≡ got ++ rest → Appends o n got → IsPartShown first x a o n
falls_first first got rest x a o n is grown = record {
  rest = x.entries;
  point = point_in a;
  text = [];
  shown = record { front = []; is = refl; shows = (refl, refl) };
  got = got;
  begins = (rest, append-nil first ∙ is);
  grown = grown;
}

pub halts_first : (first : List ℕ) (f : Halt) (x : Schedule) (a : Activities) (o n : Option (List ℕ)) → Falls o n first f → Halts first x a o n f
halts_first first (Replay Memory) x a o n h = falls_first first [] first x a o n refl (subst (λ (z : Option (List ℕ)). Appends o z []) (sym h) (Appends-nil o))
halts_first first (Replay (Refused flaw line)) x a o n h = absurd h
halts_first first (Writing e) x a o n h = falls_first first (take h.0 first) (drop h.0 first) x a o n (sym (take-append-drop h.0 first)) h.2

-- ---- what shows leads

pub shows_leads : (v : Version) (code : Code) (p s line : ℕ) (a b : Point) (es : List Entry) (text : List ℕ) → Shows v code p s line a es b text → Leads v code s a es b
shows_leads v code p s line a b [] text h = h.0
shows_leads v code p s line a b (e ∷ es) text h = (h.0, h.1, shows_leads v code p s (suc line) h.0 b es h.2 h.4)

-- ---- results

pub on_ok : {A B : Type 0} (r : Result A B) (P Q : Type 0) → (P → Q) → OnOk r P → OnOk r Q
on_ok (Ok a) P Q f h = f h
on_ok (Err b) P Q f h = h

pub if_err : {A B : Type 0} (r : Result A B) (P Q : B → Type 0) → ((b : B) → P b → Q b) → IfErr r P → IfErr r Q
if_err (Ok a) P Q f h = h
if_err (Err b) P Q f h = f b h
