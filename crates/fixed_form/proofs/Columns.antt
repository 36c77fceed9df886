-- Columns filled with blanks, and the characters that are there.
use Rattle.std.proofs.Common.{◌≡◌, ℕ, zero, suc, ◌+◌, ◌-◌, Bool, true, List, [], ◌∷◌, ◌++◌, length, take, refl, ap, ◌∙◌, arith}
use Rattle.std.specs.Prelude.{◌&&◌, cond, not, replicate}
use Rattle.std.specs.List.{list_all}
use Rattle.fixed_form.specs.Line.{filled, columns, is_blank, is_printable, without_blanks}

pub columns-front : (last : ℕ) (line : List ℕ) → columns 1 last line ≡ filled last line
unfolding columns
columns-front last line = ap (λ (n : ℕ). filled n line) (omega arith)

list_all-blanks : (p : ℕ → Bool) → p 32 ≡ true → (n : ℕ) → list_all p (filled n []) ≡ true
unfolding filled
list_all-blanks p h zero = refl
list_all-blanks p h (suc n) = rw (h, list_all-blanks p h n) refl

pub list_all-filled : (p : ℕ → Bool) → p 32 ≡ true → (n : ℕ) (cs : List ℕ) → list_all p (filled n cs) ≡ list_all p (take n cs)
unfolding filled
list_all-filled p h zero cs = refl
list_all-filled p h (suc n) [] = list_all-blanks p h (suc n)
list_all-filled p h (suc n) (c ∷ cs) = ap (λ (b : Bool). p c && b) (list_all-filled p h n cs)

pub blank_columns : (last : ℕ) (line : List ℕ) → list_all is_blank (columns 1 last line) ≡ list_all is_blank (take last line)
blank_columns last line = ap (λ (cs : List ℕ). list_all is_blank cs) (columns-front last line) ∙ list_all-filled is_blank refl last line

pub printable_columns : (last : ℕ) (line : List ℕ) → list_all is_printable (columns 1 last line) ≡ list_all is_printable (take last line)
printable_columns last line = ap (λ (cs : List ℕ). list_all is_printable cs) (columns-front last line) ∙ list_all-filled is_printable refl last line

without_blanks-blanks : (n : ℕ) → without_blanks (filled n []) ≡ []
unfolding filled
without_blanks-blanks zero = refl
without_blanks-blanks (suc n) = without_blanks-blanks n

without_blanks-filled : (n : ℕ) (cs : List ℕ) → without_blanks (filled n cs) ≡ without_blanks (take n cs)
unfolding filled
without_blanks-filled zero cs = refl
without_blanks-filled (suc n) [] = without_blanks-blanks n
without_blanks-filled (suc n) (c ∷ cs) = ap (λ (r : List ℕ). cond (not (is_blank c)) (c ∷ r) r) (without_blanks-filled n cs)

pub label_columns : (last : ℕ) (line : List ℕ) → without_blanks (columns 1 last line) ≡ without_blanks (take last line)
label_columns last line = ap (λ (cs : List ℕ). without_blanks cs) (columns-front last line) ∙ without_blanks-filled last line

filled-none : (n : ℕ) → filled n [] ≡ replicate n 32
unfolding filled
filled-none zero = refl
filled-none (suc n) = ap (λ (r : List ℕ). 32 ∷ r) (filled-none n)

all_left : (n : ℕ) → n ≡ n - 0
all_left n = omega arith

one_less : (n k : ℕ) → n - k ≡ suc n - suc k
one_less n k = omega arith

filled_parts : (n : ℕ) (cs : List ℕ) → filled n cs ≡ take n (take n cs) ++ replicate (n - length (take n cs)) 32
unfolding filled
filled_parts zero cs = refl
filled_parts (suc n) [] = filled-none (suc n) ∙ ap (λ (k : ℕ). replicate k 32) (all_left (suc n))
filled_parts (suc n) (c ∷ cs) = ap (λ (r : List ℕ). c ∷ r) (filled_parts n cs) ∙ ap (λ (k : ℕ). c ∷ (take n (take n cs) ++ replicate k 32)) (one_less n (length (take n cs)))

filled_to : (n m : ℕ) (old cs : List ℕ) → m ≡ length old + n → old ++ filled n cs ≡ take m (old ++ take n cs) ++ replicate (m - length (old ++ take n cs)) 32
filled_to n m [] cs e = filled_parts n cs ∙ ap (λ (k : ℕ). take k (take n cs) ++ replicate (k - length (take n cs)) 32) (omega (arith, e))
filled_to n zero (c ∷ old) cs e = absurd (omega (arith, e))
filled_to n (suc m) (c ∷ old) cs e = ap (λ (r : List ℕ). c ∷ r) (filled_to n m old cs (omega (arith, e))) ∙ ap (λ (k : ℕ). c ∷ (take m (old ++ take n cs) ++ replicate k 32)) (one_less m (length (old ++ take n cs)))

pub filled_onto : (n : ℕ) (old cs : List ℕ) → old ++ filled n cs ≡ take (length old + n) (old ++ take n cs) ++ replicate ((length old + n) - length (old ++ take n cs)) 32
filled_onto n old cs = filled_to n (length old + n) old cs refl
