-- Entries that are kept, and one fewer.
use Rattle.std.proofs.Common.{◌≡◌, ◌∙◌, ℕ, List, [], ◌∷◌, ◌++◌, Option, Some, None, length, refl, sym, ap, subst, arith}
use Rattle.std.proofs.lemmas.List.{length-append}
use Rattle.std.specs.Option.{option_to_list}
use Rattle.schedules.specs.Kept.{IsKept, all_taken, entries_of, entry_of, seen, taken}
use Rattle.schedules.specs.Schedules.{AreEntries, Entry, Schedule, with_entry}
use Rattle.schedules.specs.declared.entry.Version.{Version}
use Rattle.schedules.specs.declared.short.Short.{Short}
use Rattle.schedules.proofs.Keeping.{entries_kept, length_entries, taken_kept}

are_front : (v : Version) (p : ℕ) (es : List Entry) (e : Entry) → AreEntries v p (es ++ e ∷ []) → AreEntries v p es
are_front v p [] e h = tt
are_front v p (d ∷ es) e h = (h.0, are_front v p es e h.1)

front_same : (xs ys : List Entry) (a b : Entry) → xs ++ a ∷ [] ≡ ys ++ b ∷ [] → xs ≡ ys
front_same [] [] a b e = refl
front_same [] (y ∷ []) a b e = cc
front_same [] (y ∷ (z ∷ ys)) a b e = cc
front_same (x ∷ []) [] a b e = cc
front_same (x ∷ (z ∷ xs)) [] a b e = cc
front_same (x ∷ xs) (y ∷ ys) a b e =
    let h : x ≡ y = cc in
    let t : xs ++ a ∷ [] ≡ ys ++ b ∷ [] = cc in
    ap (λ (z : Entry). z ∷ xs) h ∙ ap (λ (zs : List Entry). y ∷ zs) (front_same xs ys a b t)

-- what is left is kept
pub kept_back : (v : Version) (p n : ℕ) (ss all : List Short) (s : Short) (ks new old : List ℕ) → all ≡ ss ++ s ∷ [] → old ≡ ks ++ new → taken s ≡ length new → IsKept v p n all old → IsKept v p n ss ks
kept_back v p n ss all s ks new old e f t k = record { all = same; schedule = (k.schedule.0, are_front v p (entries_of ss ks) (entry_of s new) (subst (λ (es : List Entry). AreEntries v p es) is k.schedule.1)) }
  where
    same : all_taken ss ≡ length ks
    same = omega (arith, taken_kept ss s, ap all_taken e, k.all, ap length f, length-append ks new, t)

    is : entries_of all old ≡ entries_of ss ks ++ entry_of s new ∷ []
    is = ap (λ (xs : List Short). entries_of xs old) e ∙ ap (λ (ls : List ℕ). entries_of (ss ++ s ∷ []) ls) f ∙ entries_kept ss s ks new same

-- it is the schedule without its last entry
pub seen_back : (v : Version) (p n : ℕ) (ss all : List Short) (s : Short) (ks new old : List ℕ) (x : Schedule) (l : Entry) → all ≡ ss ++ s ∷ [] → old ≡ ks ++ new → taken s ≡ length new → IsKept v p n all old
    → seen v p n all old ≡ with_entry x l → seen v p n ss ks ≡ x
seen_back v p n ss all s ks new old x l e f t k h =
    let front : entries_of ss ks ≡ x.entries = front_same (entries_of ss ks) x.entries (entry_of s new) l (sym is ∙ ap (λ (y : Schedule). y.entries) h) in
    let version : v ≡ x.version = ap (λ (y : Schedule). y.version) h in
    let processors : p ≡ x.processors = ap (λ (y : Schedule). y.processors) h in
    let slots : n ≡ x.slots = ap (λ (y : Schedule). y.slots) h in
    ap (λ (es : List Entry). schedule v p n es) front ∙ ap (λ (w : Version). schedule w p n x.entries) version
    ∙ ap (λ (i : ℕ). schedule x.version i n x.entries) processors ∙ ap (λ (i : ℕ). schedule x.version x.processors i x.entries) slots
  where
    schedule : Version → ℕ → ℕ → List Entry → Schedule
    schedule w i j es = record { version = w; processors = i; slots = j; entries = es }

    same : all_taken ss ≡ length ks
    same = omega (arith, taken_kept ss s, ap all_taken e, k.all, ap length f, length-append ks new, t)

    is : entries_of all old ≡ entries_of ss ks ++ entry_of s new ∷ []
    is = ap (λ (xs : List Short). entries_of xs old) e ∙ ap (λ (ls : List ℕ). entries_of (ss ++ s ∷ []) ls) f ∙ entries_kept ss s ks new same

-- there is one
pub some_seen : (ss all : List Short) (s : Short) (ks : List ℕ) → all ≡ ss ++ s ∷ [] → entries_of all ks ≡ [] → ⊥
some_seen ss all s ks e none = omega (arith, length_entries all ks, ap length none, ap length e, length-append ss (s ∷ []))

-- ---- a number is taken back where the entry has one

one_given : (ss all : List Short) (s : Short) (old ks : List ℕ) (o : Option ℕ) → all ≡ ss ++ s ∷ [] → taken s ≡ 1 → all_taken all ≡ length old → (o ≡ None → length old ≡ 0) → taken s ≡ length (option_to_list o)
one_given ss all s old ks None e t h n = absurd (omega (arith, taken_kept ss s, ap all_taken e, t, h, n refl))
one_given ss all s old ks (Some k) e t h n = t

pub kept_numbered : (v : Version) (p n : ℕ) (ss all : List Short) (s : Short) (ks old : List ℕ) (o : Option ℕ) → all ≡ ss ++ s ∷ [] → old ≡ ks ++ option_to_list o → taken s ≡ 1 → (o ≡ None → length old ≡ 0)
    → IsKept v p n all old → IsKept v p n ss ks
kept_numbered v p n ss all s ks old o e f t z k = kept_back v p n ss all s ks (option_to_list o) old e f (one_given ss all s old ks o e t k.all z) k

pub seen_numbered : (v : Version) (p n : ℕ) (ss all : List Short) (s : Short) (ks old : List ℕ) (o : Option ℕ) (x : Schedule) (l : Entry) → all ≡ ss ++ s ∷ [] → old ≡ ks ++ option_to_list o → taken s ≡ 1 → (o ≡ None → length old ≡ 0)
    → IsKept v p n all old → seen v p n all old ≡ with_entry x l → seen v p n ss ks ≡ x
seen_numbered v p n ss all s ks old o x l e f t z k h = seen_back v p n ss all s ks (option_to_list o) old x l e f (one_given ss all s old ks o e t k.all z) k h
