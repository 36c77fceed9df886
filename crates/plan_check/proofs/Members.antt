-- What is among the elements of a list, by cases on the list.
use Rattle.std.proofs.Common.{◌≡◌, ◌⊎◌, inl, inr, ◌<◌, ℕ, zero, suc, List, [], ◌∷◌, ◌++◌, length, slice_index_or, sym, arith, Bool, true, ap, ◌∙◌}
use Rattle.std.specs.List.{Contains, list_all}
use Rattle.std.proofs.lemmas.Bool.{and_parts}

abbrev pub In : {A : Type 0} → A → List A → Type 0
In a [] = ⊥
In a (b ∷ bs) = (a ≡ b) ⊎ In a bs

pub in_left : {A : Type 0} (x : A) (xs ys : List A) → In x xs → In x (xs ++ ys)
in_left x [] ys h = absurd h
in_left x (y ∷ xs) ys (inl e) = inl e
in_left x (y ∷ xs) ys (inr h) = inr (in_left x xs ys h)

pub in_right : {A : Type 0} (x : A) (xs ys : List A) → In x ys → In x (xs ++ ys)
in_right x [] ys h = h
in_right x (y ∷ xs) ys h = inr (in_right x xs ys h)

pub in_which : {A : Type 0} (x : A) (qs rs : List A) → In x (qs ++ rs) → In x qs ⊎ In x rs
in_which x [] rs h = inr h
in_which x (q ∷ qs) rs (inl e) = inl (inl e)
in_which x (q ∷ qs) rs (inr h) = by (in_which x qs rs h)
  where
    by : In x qs ⊎ In x rs → In x (q ∷ qs) ⊎ In x rs
    by (inl i) = inl (inr i)
    by (inr i) = inr i

-- the same, by places

pub contained : {A : Type 0} (x : A) (xs : List A) → In x xs → Contains xs x
contained x [] i = absurd i
contained x (y ∷ ys) (inl e) = (0, omega arith, sym e)
contained x (y ∷ ys) (inr i) = let c = contained x ys i in let l = c.1 in (suc c.0, omega (arith, l), c.2)

pub among : {A : Type 0} (x : A) (xs : List A) → Contains xs x → In x xs
among x xs c = by x xs c.0 c.1 c.2
  where
    by : {A : Type 0} (x : A) (xs : List A) (k : ℕ) → k < length xs → slice_index_or xs k x ≡ x → In x xs
    by x [] k l e = absurd (omega (arith, l))
    by x (y ∷ ys) zero l e = inl (sym e)
    by x (y ∷ ys) (suc k) l e = inr (by x ys k (omega (arith, l)) e)

-- what holds of all of a list holds of each
pub all_in : {A : Type 0} (f : A → Bool) (xs : List A) (x : A) → list_all f xs ≡ true → In x xs → f x ≡ true
all_in f [] x h i = absurd i
all_in f (y ∷ ys) x h (inl e) = ap f e ∙ (and_parts (f y) (list_all f ys) h).0
all_in f (y ∷ ys) x h (inr i) = all_in f ys x (and_parts (f y) (list_all f ys) h).1 i
