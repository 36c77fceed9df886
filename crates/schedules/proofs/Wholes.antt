-- Whole texts: schedules with entries added, and texts that are of one schedule or of none.
use Rattle.std.proofs.Common.{◌≡◌, ◌≢◌, ℕ, ◌<◌, ◌≤◌, List, [], ◌∷◌, ◌++◌, Option, Some, None, Result, Ok, Err, refl, sym, ap, subst, ◌∙◌, ◌⊎◌, inl, inr, arith}
use Rattle.machine.specs.State.{AreSizes, most_processors}
use Rattle.schedules.specs.Reading.{entry_at, entry_by, header_at, in_range, sizes_at}
use Rattle.schedules.specs.Refusals.{BeginsEntry, GoesOn, NoHeader, NoSizes, Refuses}
use Rattle.schedules.specs.Schedules.{AreEntries, Entry, IsAct, SchedText, Schedule, entries_before, entry_text, header, line_before, sizes_text, text_before, text_of, with_entry}
use Rattle.schedules.specs.declared.entry.Version.{Version}
use Rattle.schedules.specs.declared.flaw.Flaw.{Flaw}
use Rattle.schedules.specs.declared.flaw.Flaw.TheVariants as flaws
use Rattle.schedules.specs.declared.reading.NoEntry.{NoEntry}
use Rattle.schedules.specs.declared.reading.NoEntry.TheVariants.{Processor}
use Rattle.schedules.proofs.Lists.{ok_is, some_is}
use Rattle.std.proofs.lemmas.Bool.{le-ltb}
use Rattle.schedules.proofs.Numbers.{in_range_small}
use Rattle.schedules.proofs.Texts.{begins, entry_again, entry_is_read, header_again, sizes_again}

-- ---- one entry more

entries_pushed : (es : List Entry) (e : Entry) (rest : List ℕ) → entries_before (es ++ e ∷ []) rest ≡ entries_before es (line_before (entry_text e) rest)
entries_pushed [] e rest = refl
entries_pushed (x ∷ es) e rest = ap (line_before (entry_text x)) (entries_pushed es e rest)

pub text_pushed : (x : Schedule) (e : Entry) (rest : List ℕ) → text_before (with_entry x e) rest ≡ text_before x (line_before (entry_text e) rest)
text_pushed x e rest = ap (λ (t : List ℕ). line_before (header x.version) (line_before (sizes_text x.processors x.slots) t)) (entries_pushed x.entries e rest)

pub are_pushed : (v : Version) (p : ℕ) (es : List Entry) (e : Entry) → AreEntries v p es → e.processor < p → IsAct v e.act → AreEntries v p (es ++ e ∷ [])
are_pushed v p [] e h below allowed = ((below, allowed), tt)
are_pushed v p (x ∷ es) e h below allowed = (h.0, are_pushed v p es e h.1 below allowed)

-- ---- one text, one schedule

never_empty : (u w : List ℕ) → line_before u w ≢ []
never_empty [] w e = cc
never_empty (c ∷ cs) w e = cc

pub record Left (v : Version) (p : ℕ) (rest : List ℕ) : Type 0 where
  pub entries : List Entry
  pub are : AreEntries v p entries
  pub is : rest ≡ entries_before entries []

-- what is left of lines of entries behind some of them
left_over : (v : Version) (p : ℕ) (es fs : List Entry) (rest : List ℕ) → p ≤ most_processors → AreEntries v p es → AreEntries v p fs
    → entries_before es rest ≡ entries_before fs [] → Left v p rest
left_over v p [] fs rest few a b e = record { entries = fs; are = b; is = e }
left_over v p (x ∷ es) [] rest few a b e = absurd (never_empty (entry_text x) (entries_before es rest) e)
left_over v p (x ∷ es) (y ∷ fs) rest few a b e =
    let one = entry_is_read v p x (entries_before es rest) few a.0.0 a.0.1 in
    let two = entry_is_read v p y (entries_before fs []) few b.0.0 b.0.1 in
    let same : ◌≡◌ {A = Result (Entry × List ℕ) NoEntry} (Ok (x, entries_before es rest)) (Ok (y, entries_before fs [])) = sym one ∙ ap (entry_at v p) e ∙ two in
    left_over v p es fs rest few a.1 b.1 (ap (λ (z : Entry × List ℕ). z.1) (ok_is (x, entries_before es rest) (y, entries_before fs []) same))

-- a text that goes on behind a schedule and is a schedule's: both have the same first lines
heads_same : (x y : Schedule) (rest : List ℕ) → AreSizes x.processors x.slots → AreSizes y.processors y.slots → text_before x rest ≡ text_of y
    → ((x.version ≡ y.version) × (x.processors ≡ y.processors)) × ((x.slots ≡ y.slots) × (entries_before x.entries rest ≡ entries_before y.entries []))
heads_same x y rest a b same =
    let heads : ◌≡◌ {A = Option (Version × List ℕ)} (Some (x.version, line_before (sizes_text x.processors x.slots) (entries_before x.entries rest)))
    (Some (y.version, line_before (sizes_text y.processors y.slots) (entries_before y.entries []))) =
    sym (header_again x.version _) ∙ ap header_at same ∙ header_again y.version _ in
    let behind = some_is (x.version, line_before (sizes_text x.processors x.slots) (entries_before x.entries rest))
    (y.version, line_before (sizes_text y.processors y.slots) (entries_before y.entries [])) heads in
    let tail : line_before (sizes_text x.processors x.slots) (entries_before x.entries rest) ≡ line_before (sizes_text y.processors y.slots) (entries_before y.entries []) =
    ap (λ (z : Version × List ℕ). z.1) behind in
    let sizes = some_is (x.processors, x.slots, entries_before x.entries rest) (y.processors, y.slots, entries_before y.entries [])
    (sym (sizes_again x.processors x.slots (entries_before x.entries rest) a) ∙ ap sizes_at tail ∙ sizes_again y.processors y.slots (entries_before y.entries []) b) in (
      (ap (λ (z : Version × List ℕ). z.0) behind, ap (λ (z : ℕ × ℕ × List ℕ). z.0) sizes),
      (ap (λ (z : ℕ × ℕ × List ℕ). z.1) sizes, ap (λ (z : ℕ × ℕ × List ℕ). z.2) sizes),
    )

-- the entries of the one may stand in the other
entries_here : (x y : Schedule) → x.version ≡ y.version → x.processors ≡ y.processors → AreEntries y.version y.processors y.entries → AreEntries x.version x.processors y.entries
entries_here x y version processors are =
    subst (λ (p : ℕ). AreEntries x.version p y.entries) (sym processors) (subst (λ (v : Version). AreEntries v y.processors y.entries) (sym version) are)

-- a text that goes on behind a schedule and is a schedule's goes on with entries
goes_on_left : (bytes : List ℕ) (x : Schedule) (rest : List ℕ) (line : ℕ) → GoesOn bytes x rest line → (y : Schedule) → SchedText y bytes → Left x.version x.processors rest
goes_on_left bytes x rest line g y s =
    let h = heads_same x y rest g.schedule.0 s.schedule.0 (sym g.is ∙ s.spelled) in
    left_over x.version x.processors x.entries y.entries rest g.schedule.0.0.1 g.schedule.1 (entries_here x y h.0.0 h.0.1 s.schedule.1) h.1.1

-- lines of entries are of one list
one_list : (v : Version) (p : ℕ) (es fs : List Entry) → p ≤ most_processors → AreEntries v p es → AreEntries v p fs
    → entries_before es [] ≡ entries_before fs [] → es ≡ fs
one_list v p [] [] few a b e = refl
one_list v p [] (y ∷ fs) few a b e = absurd (never_empty (entry_text y) (entries_before fs []) (sym e))
one_list v p (x ∷ es) [] few a b e = absurd (never_empty (entry_text x) (entries_before es []) e)
one_list v p (x ∷ es) (y ∷ fs) few a b e =
    let one = entry_is_read v p x (entries_before es []) few a.0.0 a.0.1 in
    let two = entry_is_read v p y (entries_before fs []) few b.0.0 b.0.1 in
    let same : ◌≡◌ {A = Result (Entry × List ℕ) NoEntry} (Ok (x, entries_before es [])) (Ok (y, entries_before fs [])) = sym one ∙ ap (entry_at v p) e ∙ two in
    let both = ok_is (x, entries_before es []) (y, entries_before fs []) same in
    ap (λ (z : Entry). z ∷ es) (ap (λ (z : Entry × List ℕ). z.0) both)
    ∙ ap (λ (zs : List Entry). y ∷ zs) (one_list v p es fs few a.1 b.1 (ap (λ (z : Entry × List ℕ). z.1) both))

-- a text is of one schedule
pub one_schedule : (bytes : List ℕ) (x y : Schedule) → SchedText x bytes → SchedText y bytes → x ≡ y
one_schedule bytes x y a b =
    let h = heads_same x y [] a.schedule.0 b.schedule.0 (sym a.spelled ∙ b.spelled) in
    let entries = one_list x.version x.processors x.entries y.entries a.schedule.0.0.1 a.schedule.1 (entries_here x y h.0.0 h.0.1 b.schedule.1) h.1.1 in
    ap (λ (es : List Entry). schedule x.version x.processors x.slots es) entries ∙ ap (λ (v : Version). schedule v x.processors x.slots y.entries) h.0.0
    ∙ ap (λ (p : ℕ). schedule y.version p x.slots y.entries) h.0.1 ∙ ap (λ (n : ℕ). schedule y.version y.processors n y.entries) h.1.0
  where
    schedule : Version → ℕ → ℕ → List Entry → Schedule
    schedule v p n es = record { version = v; processors = p; slots = n; entries = es }

no_entry_left : (v : Version) (p : ℕ) (rest : List ℕ) → p ≤ most_processors → rest ≢ [] → Left v p rest → ((q : ℕ) → BeginsEntry v q rest → ⊥) → ⊥
no_entry_left v p rest few some l none = go l.entries l.are l.is
  where
    go : (es : List Entry) → AreEntries v p es → rest ≡ entries_before es [] → ⊥
    go [] a e = some e
    go (x ∷ es) a e = none x.processor (subst (λ (t : List ℕ). BeginsEntry v x.processor t) (sym e) (begins v p x (entries_before es []) few a.0.0 a.0.1))

all_present : (v : Version) (p q : ℕ) (rest : List ℕ) → p ≤ most_processors → rest ≢ [] → Left v p rest → BeginsEntry v q rest → p ≤ q → ⊥
all_present v p q rest few some l b absent = go l.entries l.are l.is
  where
    refused : (o : Option ℕ) → in_range q ≡ o → entry_by p o b.act b.rest ≡ Err Processor
    refused None e = refl
    refused (Some n) e = rw (le-ltb n p (omega (arith, absent, (in_range_small q n e).0))) refl

    go : (es : List Entry) → AreEntries v p es → rest ≡ entries_before es [] → ⊥
    go [] a e = some e
    go (x ∷ es) a e =
        let read : entry_at v p rest ≡ Ok (x, entries_before es []) = ap (entry_at v p) e ∙ entry_is_read v p x (entries_before es []) few a.0.0 a.0.1 in
        let not : entry_at v p rest ≡ Err Processor = entry_again v p q rest b ∙ refused (in_range q) refl in
        cc

no_sizes_left : (bytes : List ℕ) → NoSizes bytes → (y : Schedule) → SchedText y bytes → ⊥
no_sizes_left bytes n y s =
    let behind = some_is (n.version, n.rest) (y.version, line_before (sizes_text y.processors y.slots) (entries_before y.entries []))
    (sym (header_again n.version n.rest) ∙ ap header_at (sym n.headed ∙ s.spelled) ∙ header_again y.version _) in
    n.none y.processors y.slots (entries_before y.entries []) s.schedule.0 (ap (λ (z : Version × List ℕ). z.1) behind)

no_lines_left : (bytes : List ℕ) (line : ℕ) → ((line ≡ 1) × NoHeader bytes) ⊎ ((line ≡ 2) × NoSizes bytes) → (y : Schedule) → SchedText y bytes → ⊥
no_lines_left bytes line (inl c) y s = c.1 y.version _ s.spelled
no_lines_left bytes line (inr c) y s = no_sizes_left bytes c.1 y s

-- a text with a cause of refusal is no schedule's
pub refused_only : (bytes : List ℕ) (flaw : Flaw) (line : ℕ) → Refuses bytes flaw line → (y : Schedule) → SchedText y bytes → ⊥
refused_only bytes flaws.Header line c y s = no_lines_left bytes line c y s
refused_only bytes flaws.Entry line c y s =
    no_entry_left c.before.version c.before.processors c.rest c.goes_on.schedule.0.0.1 c.goes_on.some (goes_on_left bytes c.before c.rest line c.goes_on y s) c.none
refused_only bytes flaws.Processor line c y s =
    all_present c.before.version c.before.processors c.processor c.rest c.goes_on.schedule.0.0.1 c.goes_on.some
    (goes_on_left bytes c.before c.rest line c.goes_on y s) c.entry c.absent
refused_only bytes flaws.Impossible line c y s = c
refused_only bytes flaws.Unended line c y s = c
refused_only bytes flaws.BehindEnd line c y s = c
