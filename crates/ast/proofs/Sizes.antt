-- Laws of the sizes of symbols.
use Rattle.std.proofs.Common.{◌≡◌, ℕ, ℤ, pos, zero, suc, ◌+◌, ◌*◌, ◌≤◌, List, [], ◌∷◌, map, length, refl, arith, ap}
use Rattle.std.specs.Prelude.{unsigned_abs, ◌-ℤ◌, replicate, slice_index_or}
use Rattle.ast.specs.Store.{values_from}
use Rattle.ast.specs.View.{extent}
use Rattle.ast.specs.declared.program.Dimension.{Dimension}
use Rattle.ast.specs.Symbols.{Extent, width, elements, most_elements}

one_more : (n m : ℕ) → 1 ≤ m → m ≤ (n + 1) * m
one_more n m h = Prim.grind (arith)

some : (n m : ℕ) → 1 ≤ m → 1 ≤ (n + 1) * m
some n m h = Prim.grind (arith)

least : (n m : ℕ) → 1 ≤ m → n + 1 ≤ (n + 1) * m
least n m h = Prim.grind (arith)

pub some_elements : (ds : List Extent) → 1 ≤ elements ds
some_elements [] = omega arith
some_elements (d ∷ ds) = some (unsigned_abs (d.upper -ℤ d.lower)) (elements ds) (some_elements ds)

-- fewer elements without the first dimension
pub fewer : (d : Extent) (ds : List Extent) → elements (d ∷ ds) ≤ most_elements → elements ds ≤ most_elements
fewer d ds h = let k = one_more (unsigned_abs (d.upper -ℤ d.lower)) (elements ds) (some_elements ds) in omega (arith, h, k)

pub narrow : (d : Extent) (ds : List Extent) → elements (d ∷ ds) ≤ most_elements → width d ≤ most_elements
narrow d ds h = let k = least (unsigned_abs (d.upper -ℤ d.lower)) (elements ds) (some_elements ds) in omega (arith, h, k)

-- the same of the dimensions of a list that has a first one
pub narrow_first : (ds : List Dimension) (d : Dimension) → 1 ≤ length ds → elements (map extent ds) ≤ most_elements → width (extent (slice_index_or ds 0 d)) ≤ most_elements
narrow_first [] d some h = absurd (omega (arith, some))
narrow_first (e ∷ ds) d some h = narrow (extent e) (map extent ds) h

pub zeros_of : (k n : ℕ) → replicate n (pos 0) ≡ values_from (λ p. pos 0) k n
zeros_of k zero = refl
zeros_of k (suc n) = ap (λ (xs : List ℤ). pos 0 ∷ xs) (zeros_of (k + 1) n)
