-- Lists of what is known, at a place.
use Rattle.std.proofs.Common.{◌≡◌, ◌<◌, inl, inr, ℕ, zero, suc, Bool, true, false, List, [], ◌∷◌, length, get_or, refl, replicate, ap, Some, None, arith}
use Rattle.std.specs.Prelude.{min}
use Rattle.std.specs.List.{list_all}
use Rattle.std.proofs.lemmas.Bool.{and_from, le-leb}
use Rattle.plan_check.specs.Flow.{Near, all, both, both_near, is_near, put, with_await}
use Rattle.plan_check.proofs.Members.{In}

pub put_length : {A : Type 0} (xs : List A) (n : ℕ) (v : A) → length (put xs n v) ≡ length xs
put_length [] n v = refl
put_length (x ∷ xs) zero v = refl
put_length (x ∷ xs) (suc n) v = ap suc (put_length xs n v)

pub await_length : (xs : List Near) (n d : ℕ) → length (with_await xs n d) ≡ length xs
await_length [] n d = refl
await_length (x ∷ xs) zero d = refl
await_length (x ∷ xs) (suc n) d = ap suc (await_length xs n d)

pub both_length : (xs ys : List Bool) → length (both xs ys) ≡ length xs
both_length [] ys = refl
both_length (x ∷ xs) [] = ap suc (both_length xs [])
both_length (x ∷ xs) (y ∷ ys) = ap suc (both_length xs ys)

pub near_length : (xs ys : List Near) → length (both_near xs ys) ≡ length xs
near_length [] ys = refl
near_length (x ∷ xs) [] = ap suc (near_length xs [])
near_length (x ∷ xs) (y ∷ ys) = ap suc (near_length xs ys)

pub all_length : {A : Type 0} (v : A) (xs : List A) → length (all v xs) ≡ length xs
all_length v [] = refl
all_length v (x ∷ xs) = ap suc (all_length v xs)

pub put_same : (xs : List Bool) (n : ℕ) (v d : Bool) → n < length xs → get_or (put xs n v) n d ≡ v
put_same [] n v d h = absurd (omega (arith, h))
put_same (x ∷ xs) zero v d h = refl
put_same (x ∷ xs) (suc n) v d h = put_same xs n v d (omega (arith, h))

pub all_get : (xs : List Bool) (k : ℕ) → k < length xs → get_or (all true xs) k false ≡ true
all_get [] k h = absurd (omega (arith, h))
all_get (x ∷ xs) zero h = refl
all_get (x ∷ xs) (suc k) h = all_get xs k (omega (arith, h))

pub get_within : (xs : List Bool) (k : ℕ) → get_or xs k false ≡ true → k < length xs
get_within [] k h = cc
get_within (x ∷ xs) zero h = omega arith
get_within (x ∷ xs) (suc k) h = let g = get_within xs k h in omega (arith, g)

pub both_true : (xs ys : List Bool) (k : ℕ) → get_or xs k false ≡ true → get_or ys k false ≡ true → get_or (both xs ys) k false ≡ true
both_true [] ys k h g = h
both_true (x ∷ xs) [] k h g = cc
both_true (x ∷ xs) (y ∷ ys) zero h g = and_from x y h g
both_true (x ∷ xs) (y ∷ ys) (suc k) h g = both_true xs ys k h g

pub await_near : (xs : List Near) (n d : ℕ) → n < length xs → is_near (get_or (with_await xs n d) n None) d ≡ true
await_near [] n d h = absurd (omega (arith, h))
await_near (None ∷ xs) zero d h = le-leb d d (omega arith)
await_near (Some m ∷ xs) zero d h = le-leb (min m d) d (omega arith)
await_near (x ∷ xs) (suc n) d h = await_near xs n d (omega (arith, h))

pub put_true : (xs : List Bool) (n k : ℕ) → get_or xs k false ≡ true → get_or (put xs n true) k false ≡ true
put_true [] n k h = h
put_true (x ∷ xs) zero zero h = refl
put_true (x ∷ xs) zero (suc k) h = h
put_true (x ∷ xs) (suc n) zero h = h
put_true (x ∷ xs) (suc n) (suc k) h = put_true xs n k h

pub get_true : (n k : ℕ) → k < n → get_or (replicate n true) k false ≡ true
get_true zero k l = absurd (omega (arith, l))
get_true (suc n) zero l = refl
get_true (suc n) (suc k) l = get_true n k (omega (arith, l))

pub all_from : {A : Type 0} (f : A → Bool) (xs : List A) → ((x : A) → In x xs → f x ≡ true) → list_all f xs ≡ true
all_from f [] h = refl
all_from f (x ∷ xs) h = and_from (f x) (list_all f xs) (h x (inl refl)) (all_from f xs (λ y i. h y (inr i)))
