-- Names without the blanks that fill them.
use Rattle.std.proofs.Common.{◌≡◌, ℕ, suc, ◌-◌, ◌<◌, ◌≤◌, false, List, [], ◌∷◌, ◌++◌, length, take, get_or, refl, ap, sym, ◌∙◌, arith}
use Rattle.std.proofs.Math.Seq.{take-suc}
use Rattle.std.specs.Prelude.{nat_eq}
use Rattle.ast.specs.Name.{before_blanks, trimmed}

pub trimmed-blank : (xs : List ℕ) → trimmed (xs ++ 32 ∷ []) ≡ trimmed xs
trimmed-blank [] = refl
trimmed-blank (x ∷ xs) = ap (before_blanks x) (trimmed-blank xs)

before-character : (x : ℕ) (xs : List ℕ) (c : ℕ) → before_blanks x (xs ++ c ∷ []) ≡ x ∷ (xs ++ c ∷ [])
before-character x [] c = refl
before-character x (y ∷ ys) c = refl

pub trimmed-character : (xs : List ℕ) (c : ℕ) → nat_eq c 32 ≡ false → trimmed (xs ++ c ∷ []) ≡ xs ++ c ∷ []
trimmed-character [] c other = rw other refl
trimmed-character (x ∷ xs) c other = ap (before_blanks x) (trimmed-character xs c other) ∙ before-character x xs c

taken : (xs : List ℕ) (n : ℕ) → 0 < n → n ≤ length xs → take n xs ≡ take (n - 1) xs ++ get_or xs (n - 1) 0 ∷ []
taken xs n some within =
    let is : suc (n - 1) ≡ n = omega arith in
    ap (λ k. take k xs) (sym is) ∙ take-suc xs (n - 1) 0 (omega arith)

-- a blank at the end is left out
pub trimmed-shorter : (xs : List ℕ) (n : ℕ) → 0 < n → n ≤ length xs → get_or xs (n - 1) 0 ≡ 32 → trimmed (take (n - 1) xs) ≡ trimmed (take n xs)
trimmed-shorter xs n some within blank =
    sym (ap trimmed (taken xs n some within ∙ ap (λ c. take (n - 1) xs ++ c ∷ []) blank) ∙ trimmed-blank (take (n - 1) xs))

-- without one nothing is
pub trimmed-whole : (xs : List ℕ) (n : ℕ) → 0 < n → n ≤ length xs → nat_eq (get_or xs (n - 1) 0) 32 ≡ false → trimmed (take n xs) ≡ take n xs
trimmed-whole xs n some within other =
    let is = taken xs n some within in
    ap trimmed is ∙ trimmed-character (take (n - 1) xs) _ other ∙ sym is

pub not_blank : (c : ℕ) → (c ≡ 32 → ⊥) → nat_eq c 32 ≡ false
not_blank c other = grind (arith, other)
