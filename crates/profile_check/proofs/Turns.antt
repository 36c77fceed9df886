-- A turn of a loop that resolves things in their places: what f makes of a thing, and how many
-- references c says it has, where v is what the thing stands for.
use Rattle.std.proofs.Common.{◌≡◌, ◌∙◌, ℕ, zero, suc, ◌+◌, ◌<◌, List, [], ◌∷◌, ◌++◌, map, length, take, drop, get_or, refl, ap, sym, arith}
use Rattle.std.proofs.Math.ListN.{set}
use Rattle.profile_check.specs.Resolving.{in_turn, total}

pub count_at : {X V : Type 0} (v : X → V) (c : V → ℕ) (xs : List X) (i : ℕ) (d : X) → i < length xs → c (v (get_or xs i d)) + total c (map v (drop (i + 1) xs)) ≡ total c (map v (drop i xs))
count_at v c [] i d h = absurd (omega (arith, h))
count_at v c (x ∷ xs) zero d h = refl
count_at v c (x ∷ xs) (suc i) d h =
    let s : suc i + 1 ≡ suc (i + 1) = omega arith in
    ap (λ (n : ℕ). c (v (get_or xs i d)) + total c (map v (drop n (x ∷ xs)))) s ∙ count_at v c xs i d (omega (arith, h))

pub tree_turn : {X V : Type 0} (v : X → V) (c : V → ℕ) (f : ℕ → V → V) (a : ℕ) (xs : List X) (i : ℕ) (y d : X) → i < length xs → v y ≡ f a (v (get_or xs i d))
    → map v (take (i + 1) (set xs i y)) ++ in_turn f c (a + c (v y)) (map v (drop (i + 1) (set xs i y))) ≡ map v (take i xs) ++ in_turn f c a (map v (drop i xs))
tree_turn v c f a [] i y d h e = absurd (omega (arith, h))
tree_turn {V = V} v c f a (x ∷ xs) zero y d h e = ap (λ (z : V). z ∷ in_turn f c (a + c z) (map v xs)) e
tree_turn {X = X} {V = V} v c f a (x ∷ xs) (suc i) y d h e =
    let s : suc i + 1 ≡ suc (i + 1) = omega arith in
    ap (λ (n : ℕ). map v (take n (x ∷ set xs i y)) ++ in_turn f c (a + c (v y)) (map v (drop n (x ∷ set xs i y)))) s
    ∙ ap (λ (zs : List V). v x ∷ zs) (tree_turn v c f a xs i y d (omega (arith, h)) e)

pub count_turn : {X V : Type 0} (v : X → V) (c : V → ℕ) (xs : List X) (i : ℕ) (y : X) → i < length xs → total c (map v (take (i + 1) (set xs i y))) ≡ total c (map v (take i xs)) + c (v y)
count_turn v c [] i y h = absurd (omega (arith, h))
count_turn v c (x ∷ xs) zero y h = omega arith
count_turn v c (x ∷ xs) (suc i) y h =
    let s : suc i + 1 ≡ suc (i + 1) = omega arith in
    ap (λ (n : ℕ). total c (map v (take n (x ∷ set xs i y)))) s ∙ ap (λ (n : ℕ). c (v x) + n) (count_turn v c xs i y (omega (arith, h))) ∙ assoc (c (v x)) (total c (map v (take i xs))) (c (v y))
  where
    assoc : (a b c : ℕ) → a + (b + c) ≡ (a + b) + c
    assoc a b c = omega arith

pub rest_turn : {X : Type 0} (xs ys : List X) (i : ℕ) (y : X) → drop i xs ≡ drop i ys → drop (i + 1) (set xs i y) ≡ drop (i + 1) ys
rest_turn {X = X} xs ys i y h = unset xs i y ∙ one-more xs ys i h
  where
    unset : (xs : List X) (i : ℕ) (y : X) → drop (i + 1) (set xs i y) ≡ drop (i + 1) xs
    unset [] i y = refl
    unset (x ∷ xs) zero y = refl
    unset (x ∷ xs) (suc i) y = let s : suc i + 1 ≡ suc (i + 1) = omega arith in ap (λ (n : ℕ). drop n (x ∷ set xs i y)) s ∙ unset xs i y ∙ sym (ap (λ (n : ℕ). drop n (x ∷ xs)) s)

    one : (xs : List X) (i : ℕ) → drop (i + 1) xs ≡ drop 1 (drop i xs)
    one [] zero = refl
    one [] (suc i) = let s : suc i + 1 ≡ suc (i + 1) = omega arith in ap (λ (n : ℕ). drop n []) s
    one (x ∷ xs) zero = refl
    one (x ∷ xs) (suc i) = let s : suc i + 1 ≡ suc (i + 1) = omega arith in ap (λ (n : ℕ). drop n (x ∷ xs)) s ∙ one xs i

    one-more : (xs ys : List X) (i : ℕ) → drop i xs ≡ drop i ys → drop (i + 1) xs ≡ drop (i + 1) ys
    one-more xs ys i h = one xs i ∙ ap (λ (zs : List X). drop 1 zs) h ∙ sym (one ys i)

pub bound_turn : {X V : Type 0} (v : X → V) (c : V → ℕ) (xs : List X) (i : ℕ) (y : X) → total c (map v (drop (i + 1) (set xs i y))) ≡ total c (map v (drop (i + 1) xs))
bound_turn v c [] i y = refl
bound_turn v c (x ∷ xs) zero y = refl
bound_turn v c (x ∷ xs) (suc i) y =
    let s : suc i + 1 ≡ suc (i + 1) = omega arith in
    ap (λ (n : ℕ). total c (map v (drop n (x ∷ set xs i y)))) s ∙ bound_turn v c xs i y ∙ sym (ap (λ (n : ℕ). total c (map v (drop n (x ∷ xs)))) s)

-- what stands in a vector whose elements were worked on in their places
pub written_back : {X : Type 0} (n : ℕ) (xs ys : List X) → n ≡ length xs → length ys ≡ length xs → take n (ys ++ drop (length ys) xs) ≡ ys
written_back zero xs [] h k = refl
written_back zero xs (y ∷ ys) h k = absurd (omega (arith, h, k))
written_back (suc n) [] ys h k = absurd (omega (arith, h))
written_back (suc n) (x ∷ xs) [] h k = absurd (omega (arith, k))
written_back {X = X} (suc n) (x ∷ xs) (y ∷ ys) h k = ap (λ (zs : List X). y ∷ zs) (written_back n xs ys (omega (arith, h)) (omega (arith, k)))
