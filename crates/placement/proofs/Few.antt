-- An ascending list whose elements all stand in another list is no longer than that.
use Rattle.std.proofs.Common.{◌≡◌, ◌<◌, ◌≤◌, inl, inr, ℕ, suc, true, List, [], ◌∷◌, length, refl, ap, ⊎_elim, arith}
use Rattle.std.specs.Prelude.{nat_lt}
use Rattle.std.proofs.lemmas.Bool.{and_parts, ltb-true}
use Rattle.placement.specs.Placement.{is_ascending}
use Rattle.plan_check.proofs.Members.{In}

pub above : (x : ℕ) (ss : List ℕ) → is_ascending (x ∷ ss) ≡ true → (y : ℕ) → In y ss → x < y
above x [] h y i = absurd i
above x (z ∷ ss) h y (inl e) = let l = ltb-true x z (and_parts (nat_lt x z) (is_ascending (z ∷ ss)) h).0 in omega (arith, l, e)
above x (z ∷ ss) h y (inr i) =
    let g = and_parts (nat_lt x z) (is_ascending (z ∷ ss)) h in
    let l = ltb-true x z g.0 in
    let m = above z ss g.1 y i in
    omega (arith, l, m)

pub tail_ascending : (x : ℕ) (ss : List ℕ) → is_ascending (x ∷ ss) ≡ true → is_ascending ss ≡ true
tail_ascending x [] h = refl
tail_ascending x (z ∷ ss) h = (and_parts (nat_lt x z) (is_ascending (z ∷ ss)) h).1

-- a list without one of its elements
shorter : (x : ℕ) (xs : List ℕ) → In x xs → (ys : List ℕ) × (length xs ≡ suc (length ys)) × ((y : ℕ) → In y xs → x < y → In y ys)
shorter x [] i = absurd i
shorter x (z ∷ xs) (inl e) = (xs, refl, λ y j l. ⊎_elim (λ q. absurd (omega (arith, e, q, l))) (λ k. k) j)
shorter x (z ∷ xs) (inr i) = let g = shorter x xs i in (z ∷ g.0, ap suc g.1, λ y j l. ⊎_elim (λ q. inl q) (λ k. inr (g.2 y k l)) j)

pub few : (ss xs : List ℕ) → is_ascending ss ≡ true → ((s : ℕ) → In s ss → In s xs) → length ss ≤ length xs
few [] xs h k = omega arith
few (s ∷ ss) xs h k =
    let g = shorter s xs (k s (inl refl)) in
    let e = g.1 in
    let r = few ss g.0 (tail_ascending s ss h) (λ y i. g.2 y (k y (inr i)) (above s ss h y i)) in
    omega (arith, e, r)
