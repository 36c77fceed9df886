-- The values of variables in a store that is one vector of cells.
use Rattle.std.proofs.Common.{◌≡◌, ◌∙◌, ℕ, zero, suc, ◌+◌, ◌<◌, ◌≤◌, Bool, true, false, List, [], ◌∷◌, length, take, drop, get_or, Some, refl, sym, ap, arith}
use Rattle.std.specs.Prelude.{ℤ, pos, nat_lt, ◌&&◌, ◌==◌, ◌^◌, slice_get}
use Rattle.std.proofs.lemmas.Bool.{and_parts, eqb-true, ltb-false}
use Rattle.std.proofs.lemmas.List.{drop-drop, drop_more}
use Rattle.ast.specs.Store.{StoreOf, dealt, values_from}
use Rattle.machine.specs.Laid.{are_distinct, are_laid, cell_number, count_of, names_in}
use Rattle.machine.specs.declared.code.Variable.{Variable}
use Rattle.machine.proofs.Naming.{number_named}
use Rattle.machine.specs.StoreView.{store_of, value_in}
use Rattle.replay.specs.Replayed.{shapes_of, stored}

-- so many values from a place on
values_law : (f : ℕ → ℤ) (cells : List ℤ) (start n size : ℕ) → start + n + size ≤ length cells → ((p : ℕ) → p < n + size → f p ≡ get_or cells (start + p) (pos 0)) → take size (drop (start + n) cells) ≡ values_from f n size
values_law f cells start n zero h k = refl
values_law f cells start n (suc m) h k =
    let next : start + n + 1 ≡ start + (n + 1) = omega arith in
    ap (λ (xs : List ℤ). take (suc m) xs) (drop_more cells (start + n) (pos 0) (omega (arith, h)))
    ∙ ap (λ (x : ℤ). x ∷ take m (drop (start + n + 1) cells)) (sym (k n (omega arith)))
    ∙ ap (λ (i : ℕ). f n ∷ take m (drop i cells)) next
    ∙ ap (λ (xs : List ℤ). f n ∷ xs) (values_law f cells start (n + 1) m (omega (arith, h)) (λ p l. k p (omega (arith, l))))

-- a variable's cells are among all
pub bounded : (n : ℕ) (xs : List Variable) (i : ℕ) (x : Variable) → are_laid n xs ≡ true → slice_get xs i ≡ Some x → x.start + x.size ≤ n + count_of xs
bounded n [] i x h e = cc
bounded n (y ∷ ys) zero x h e =
    let d : y ≡ x = cc in
    let at : y.start ≡ n = eqb-true y.start n (and_parts (y.start == n) (nat_lt (n + y.size) (2 ^ 62) && are_laid (n + y.size) ys) h).0 in
    omega (arith, at, ap (λ (z : Variable). z.start) d, ap (λ (z : Variable). z.size) d)
bounded n (y ∷ ys) (suc i) x h e =
    let k = and_parts (y.start == n) (nat_lt (n + y.size) (2 ^ 62) && are_laid (n + y.size) ys) h in
    let m = and_parts (nat_lt (n + y.size) (2 ^ 62)) (are_laid (n + y.size) ys) k.1 in
    omega (arith, bounded (n + y.size) ys i x m.1 e)

value_law : (xs : List Variable) (cells : List ℤ) (i : ℕ) (x : Variable) (p : ℕ) → are_distinct (names_in xs) ≡ true → slice_get xs i ≡ Some x → p < x.size → store_of xs cells x.name.letters p ≡ get_or cells (x.start + p) (pos 0)
unfolding store_of
value_law xs cells i x p d e l = ap (value_in cells) (number_named xs i x p d e) ∙ by (nat_lt p x.size) refl
  where
    by : (b : Bool) → nat_lt p x.size ≡ b → value_in cells (cell_number (Some x) (pos p)) ≡ get_or cells (x.start + p) (pos 0)
    by true h = rw h refl
    by false h = absurd (omega (arith, l, ltb-false p x.size h))

-- they hold its values
pub variable_law : (xs : List Variable) (cells : List ℤ) (i : ℕ) (x : Variable) → are_distinct (names_in xs) ≡ true → are_laid 0 xs ≡ true → length cells ≡ count_of xs → slice_get xs i ≡ Some x
    → take x.size (drop x.start cells) ≡ values_from (store_of xs cells x.name.letters) 0 x.size
variable_law xs cells i x d l c e =
    let zeroth : x.start ≡ x.start + 0 = omega arith in
    ap (λ (n : ℕ). take x.size (drop n cells)) zeroth
    ∙ values_law (store_of xs cells x.name.letters) cells x.start 0 x.size (omega (arith, c, bounded 0 xs i x l e)) (λ p h. value_law xs cells i x p d e (omega (arith, h)))

dealt_from : (n : ℕ) (xs : List Variable) (cells : List ℤ) (store : StoreOf) → are_laid n xs ≡ true → ((i : ℕ) (x : Variable) → slice_get xs i ≡ Some x → take x.size (drop x.start cells) ≡ values_from (store x.name.letters) 0 x.size)
    → dealt (shapes_of xs) (drop n cells) ≡ stored xs store
dealt_from n [] cells store l h = refl
dealt_from n (x ∷ xs) cells store l h =
    let k = and_parts (x.start == n) (nat_lt (n + x.size) (2 ^ 62) && are_laid (n + x.size) xs) l in
    let m = and_parts (nat_lt (n + x.size) (2 ^ 62)) (are_laid (n + x.size) xs) k.1 in
    let starts : n ≡ x.start = sym (eqb-true x.start n k.0) in
    let rest : List ℤ = drop x.size (drop n cells) in
    ap (λ (i : ℕ). (x.name.letters, take x.size (drop i cells)) ∷ dealt (shapes_of xs) rest) starts
    ∙ ap (λ (vs : List ℤ). (x.name.letters, vs) ∷ dealt (shapes_of xs) rest) (h 0 x refl)
    ∙ ap (λ (vs : List ℤ). (x.name.letters, values_from (store x.name.letters) 0 x.size) ∷ dealt (shapes_of xs) vs) (drop-drop x.size n cells)
    ∙ ap (λ (cs : List (List ℕ × List ℤ)). (x.name.letters, values_from (store x.name.letters) 0 x.size) ∷ cs) (dealt_from (n + x.size) xs cells store m.1 (λ i y e. h (suc i) y e))

-- the variables' names have the values of the store that the cells stand for
pub dealt_stored : (xs : List Variable) (cells : List ℤ) → are_distinct (names_in xs) ≡ true → are_laid 0 xs ≡ true → length cells ≡ count_of xs → dealt (shapes_of xs) cells ≡ stored xs (store_of xs cells)
dealt_stored xs cells d l c = dealt_from 0 xs cells (store_of xs cells) l (λ i x e. variable_law xs cells i x d l c e)
