-- Entries that are kept, the last of them with another number of local instructions.
use Rattle.std.proofs.Common.{⊎_elim, ◌≡◌, ◌∙◌, ℕ, zero, suc, ◌<◌, ◌≤◌, List, [], ◌∷◌, ◌++◌, refl, sym, ap, subst, arith}
use Rattle.std.specs.Prelude.{◌/◌, ◌%◌, drop, get_or, replicate}
use Rattle.std.proofs.lemmas.List.{append-nil}
use Rattle.std.proofs.lemmas.Bool.{cases_lt}
use Rattle.schedules.specs.Kept.{IsKept, counting, entries_of, entry_of, seen, taken}
use Rattle.schedules.specs.Schedules.{AreEntries, Entry, IsAct, Schedule, bursts, last_burst, longest_burst, picks, picks_main, shares, takes_ticket, with_entries, with_entry, works}
use Rattle.schedules.specs.declared.entry.Version.{Version}
use Rattle.schedules.specs.declared.short.Short.{Short}
use Rattle.schedules.specs.declared.short.Short.TheVariants.{Work, Share, PickMain, PickIteration, TakeTicket}
use Rattle.schedules.proofs.Bursts.{burst, is_act}
use Rattle.schedules.proofs.Keeping.{kept_kept, seen_kept}
use Rattle.schedules.proofs.Taking.{kept_back, seen_back}

-- ---- one entry is enough for so few

one_last : (q n : ℕ) → 1 ≤ n → last_burst q n ≡ burst q n ∷ []
one_last q zero low = absurd (omega (arith, low))
one_last q (suc n) low = refl

parted : (q n d r : ℕ) → n / longest_burst ≡ d → n % longest_burst ≡ r → bursts q n ≡ replicate d (burst q longest_burst) ++ last_burst q r
parted q n d r e f =
    ap (λ (i : ℕ). replicate i (burst q longest_burst) ++ last_burst q (n % longest_burst)) e
    ∙ ap (λ (i : ℕ). replicate d (burst q longest_burst) ++ last_burst q i) f

pub one_burst : (q n : ℕ) → 1 ≤ n → n ≤ longest_burst → bursts q n ≡ burst q n ∷ []
one_burst q n low high = ⊎_elim under over (cases_lt n longest_burst)
  where
    under : n < longest_burst → bursts q n ≡ burst q n ∷ []
    under h = parted q n 0 n (omega (arith, h)) (omega (arith, h)) ∙ one_last q n low

    over : longest_burst ≤ n → bursts q n ≡ burst q n ∷ []
    over h =
        let whole : n ≡ longest_burst = omega (arith, h, high) in
        parted q n 1 0 (omega (arith, whole)) (omega (arith, whole)) ∙ ap (λ (i : ℕ). burst q i ∷ []) (sym whole)

-- ---- the last entry

pub last_is : (v : Version) (p : ℕ) (es : List Entry) (e : Entry) → AreEntries v p (es ++ e ∷ []) → (e.processor < p) × IsAct v e.act
last_is v p [] e h = h.0
last_is v p (d ∷ es) e h = last_is v p es e h.1

pub last_same : (xs ys : List Entry) (a b : Entry) → xs ++ a ∷ [] ≡ ys ++ b ∷ [] → a ≡ b
last_same [] [] a b e = cc
last_same [] (y ∷ []) a b e = cc
last_same [] (y ∷ (z ∷ ys)) a b e = cc
last_same (x ∷ []) [] a b e = cc
last_same (x ∷ (z ∷ xs)) [] a b e = cc
last_same (x ∷ xs) (y ∷ ys) a b e =
    let t : xs ++ a ∷ [] ≡ ys ++ b ∷ [] = cc in
    last_same xs ys a b t

-- what is kept ends in the entry of the last short one, with some numbers
pub ending : (ss : List Short) (s : Short) (ks : List ℕ) → (es : List Entry) × (ls : List ℕ) × (entries_of (ss ++ s ∷ []) ks ≡ es ++ entry_of s ls ∷ [])
ending [] s ks = ([], ks, refl)
ending (t ∷ ss) s ks =
    let r = ending ss s (drop (taken t) ks) in
    (entry_of t ks ∷ r.0, r.1, ap (λ (es : List Entry). entry_of t ks ∷ es) r.2)

-- ---- a schedule whose last entry changes so

module _ (v : Version) (p n : ℕ) (ss all : List Short) (ks : List ℕ) (made : ℕ) (low : 1 ≤ made) (high : made ≤ longest_burst) where
  front : (s : Short) → all ≡ ss ++ s ∷ [] → taken s ≡ 0 → IsKept v p n all ks → IsKept v p n ss ks
  front s e t k = kept_back v p n ss all s ks [] ks e (sym (append-nil ks)) t k

  same : (s : Short) (new : List Short) → all ≡ ss ++ s ∷ [] → new ≡ ss ++ s ∷ [] → IsKept v p n all ks → IsKept v p n new ks
  same s new e f k = subst (λ (ts : List Short). IsKept v p n ts ks) (e ∙ sym f) k

  pub kept_recounted : (s : Short) (new : List Short) → all ≡ ss ++ s ∷ [] → new ≡ ss ++ counting made s ∷ [] → IsKept v p n all ks → IsKept v p n new ks
  kept_recounted (Work r l) new e f k =
      let end = ending ss (Work r l) ks in
      let last = last_is v p end.0 (burst r l) (subst (λ (es : List Entry). AreEntries v p es) (ap (λ (ts : List Short). entries_of ts ks) e ∙ end.2) k.schedule.1) in
      subst (λ (ts : List Short). IsKept v p n ts ks) (sym f) (kept_kept v p n ss (Work r made) ks (front (Work r l) e refl k) refl last.0 (is_act v made low high))
  kept_recounted (Share r) new e f k = same (Share r) new e f k
  kept_recounted (PickMain r) new e f k = same (PickMain r) new e f k
  kept_recounted (PickIteration r) new e f k = same (PickIteration r) new e f k
  kept_recounted (TakeTicket r) new e f k = same (TakeTicket r) new e f k

  module _ (x : Schedule) (q m : ℕ) (is : seen v p n all ks ≡ with_entry x (burst q m)) where
    -- the last one is of local instructions
    last_of : (s : Short) → all ≡ ss ++ s ∷ [] → (ls : List ℕ) × (entry_of s ls ≡ burst q m)
    last_of s e =
        let end = ending ss s ks in
        (end.1, last_same end.0 x.entries (entry_of s end.1) (burst q m) (sym (ap (λ (ts : List Short). entries_of ts ks) e ∙ end.2) ∙ ap (λ (y : Schedule). y.entries) is))

    pub seen_recounted : (s : Short) (new : List Short) → all ≡ ss ++ s ∷ [] → new ≡ ss ++ counting made s ∷ [] → IsKept v p n all ks → seen v p n new ks ≡ with_entries x (bursts q made)
    seen_recounted (Work r l) new e f k =
        let processor : r ≡ q = ap (λ (d : Entry). d.processor) (last_of (Work r l) e).1 in
        let before : seen v p n ss ks ≡ x = seen_back v p n ss all (Work r l) ks [] ks x (burst q m) e (sym (append-nil ks)) refl k is in
        ap (λ (ts : List Short). seen v p n ts ks) f ∙ seen_kept v p n ss (Work r made) ks (front (Work r l) e refl k)
        ∙ ap (λ (y : Schedule). with_entry y (burst r made)) before ∙ ap (λ (i : ℕ). with_entry x (burst i made)) processor
        ∙ ap (λ (es : List Entry). with_entries x es) (sym (one_burst q made low high))
    seen_recounted (Share r) new e f k = let z : shares ≡ works m = ap (λ (d : Entry). d.act) (last_of (Share r) e).1 in cc
    seen_recounted (PickMain r) new e f k = let z : picks_main ≡ works m = ap (λ (d : Entry). d.act) (last_of (PickMain r) e).1 in cc
    seen_recounted (PickIteration r) new e f k = let z : picks (get_or (last_of (PickIteration r) e).0 0 0) ≡ works m = ap (λ (d : Entry). d.act) (last_of (PickIteration r) e).1 in cc
    seen_recounted (TakeTicket r) new e f k = let z : takes_ticket ≡ works m = ap (λ (d : Entry). d.act) (last_of (TakeTicket r) e).1 in cc
