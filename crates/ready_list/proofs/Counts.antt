-- How often slots stand in lists.
use Rattle.std.proofs.Common.{refl, sym, ap, subst, inl, inr, ◌≡◌, ◌≢◌, ℕ, zero, suc, ◌+◌, ◌<◌, ◌≤◌, List, [], ◌∷◌, ◌++◌, get_or, length, arith}
use Rattle.std.proofs.lemmas.Bool.Decides.{nat_tests}
use Rattle.std.proofs.lemmas.Bool.{cases_lt, cases_eq}
use Rattle.std.proofs.Math.ListN.{set}
use Rattle.ready_list.specs.Lists.{times_in, places_in, without}

pub times-append : (s : ℕ) (xs ys : List (ℕ × ℕ)) → times_in s (xs ++ ys) ≡ times_in s xs + times_in s ys
times-append s [] ys = omega arith
times-append s (x ∷ xs) ys = omega (arith, times-append s xs ys)

pub times-here : (x : ℕ × ℕ) (xs : List (ℕ × ℕ)) → times_in x.0 (x ∷ xs) ≡ 1 + times_in x.0 xs
times-here x xs = grind (arith, nat_tests)

pub times-there : (s : ℕ) (x : ℕ × ℕ) (xs : List (ℕ × ℕ)) → s ≢ x.0 → times_in s (x ∷ xs) ≡ times_in s xs
times-there s x xs d = grind (arith, nat_tests)

pub times-mid : (s : ℕ) (xs : List (ℕ × ℕ)) (y : ℕ × ℕ) (ys : List (ℕ × ℕ)) → times_in s (xs ++ y ∷ ys) ≡ times_in s (y ∷ []) + times_in s (xs ++ ys)
times-mid s xs y ys = omega (arith, times-append s xs (y ∷ ys), times-append s xs ys)

pub places-set : (s : ℕ) (ls : List (List (ℕ × ℕ))) (l : ℕ) (ys : List (ℕ × ℕ)) → l < length ls → places_in s (set ls l ys) + times_in s (get_or ls l []) ≡ places_in s ls + times_in s ys
places-set s [] l ys h = omega arith
places-set s (xs ∷ ls) zero ys h = omega arith
places-set s (xs ∷ ls) (suc l) ys h = omega (arith, places-set s ls l ys (omega arith))

pub times-le-places : (s : ℕ) (ls : List (List (ℕ × ℕ))) (l : ℕ) → times_in s (get_or ls l []) ≤ places_in s ls
times-le-places s [] l = omega arith
times-le-places s (xs ∷ ls) zero = omega arith
times-le-places s (xs ∷ ls) (suc l) = omega (arith, times-le-places s ls l)

-- a slot that stands in no list of two apart stands in none
pub list-of-place : (s : ℕ) (ls : List (List (ℕ × ℕ))) → 0 < places_in s ls → (l : ℕ) × (l < length ls) × (0 < times_in s (get_or ls l []))
list-of-place s [] h = absurd (omega arith)
list-of-place s (xs ∷ ls) h = elim (cases_lt 0 (times_in s xs)) [
  | inl a ↦ (0, omega arith, a)
  | inr b ↦ let r = list-of-place s ls (omega arith) in (suc r.0, omega (arith, r.1), r.2)
]

pub without-absent : (s : ℕ) (xs : List (ℕ × ℕ)) → times_in s xs ≡ 0 → without s xs ≡ xs
without-absent s [] z = refl
without-absent s (x ∷ xs) z = elim (cases_eq s x.0) [
  | inl e ↦ absurd (let k : times_in s (x ∷ xs) ≡ times_in x.0 (x ∷ xs) = ap (λ a. times_in a (x ∷ xs)) e in omega (arith, times-here x xs))
  | inr d ↦ (let r : without s xs ≡ xs = without-absent s xs (omega arith) in grind (arith, nat_tests))
]

pub length-without : (s : ℕ) (xs : List (ℕ × ℕ)) → length xs ≡ times_in s xs + length (without s xs)
length-without s [] = omega arith
length-without s (x ∷ xs) = elim (cases_eq s x.0) [
  | inl e ↦ (let r = length-without s xs in grind (arith, nat_tests))
  | inr d ↦ (let r = length-without s xs in grind (arith, nat_tests))
]

pub times-without_same : (s : ℕ) (xs : List (ℕ × ℕ)) → times_in s (without s xs) ≡ 0
times-without_same s [] = refl
times-without_same s (x ∷ xs) = let r = times-without_same s xs in grind (arith, nat_tests)

pub times-without_other : (w s : ℕ) (xs : List (ℕ × ℕ)) → w ≢ s → times_in w (without s xs) ≡ times_in w xs
times-without_other w s [] d = refl
times-without_other w s (x ∷ xs) d = let r = times-without_other w s xs d in grind (arith, nat_tests)

-- a list of different numbers below n has at most n of them
pub few : (n : ℕ) (xs : List (ℕ × ℕ)) → ((w : ℕ) → times_in w xs ≤ 1) → ((w : ℕ) → 0 < times_in w xs → w < n) → length xs ≤ n
few zero [] once below = omega arith
few zero (x ∷ xs) once below = absurd (omega (arith, below x.0 (omega (arith, times-here x xs))))
few (suc n) xs once below =
    let rest : List (ℕ × ℕ) = without n xs in
    let r : length rest ≤ n = few n rest (λ w. elim (cases_eq w n) [
      | inl e ↦ subst (λ a. times_in a rest ≤ 1) (sym e) (omega (arith, times-without_same n xs))
      | inr d ↦ omega (arith, times-without_other w n xs d, once w)
    ]) (λ w h. elim (cases_eq w n) [
      | inl e ↦ absurd (let z : times_in w rest ≡ times_in n rest = ap (λ a. times_in a rest) e in omega (arith, times-without_same n xs))
      | inr d ↦ omega (arith, below w (omega (arith, times-without_other w n xs d)))
    ]) in
    omega (arith, length-without n xs, once n)
