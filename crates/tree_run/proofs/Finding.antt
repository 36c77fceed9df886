-- The bounds and the size of a symbol that is found, and the symbol at a place.
use Rattle.std.proofs.Common.{◌≡◌, ℕ, zero, suc, true, List, [], ◌∷◌, get_or, Some}
use Rattle.std.specs.Prelude.{map, slice_get, int_lt, not, nat_le, ◌≤◌}
use Rattle.std.specs.List.{list_all}
use Rattle.std.proofs.lemmas.Bool.{and_parts, leb-true}
use Rattle.ast.specs.Symbols.{Sort, Symbol, dimensions_of, size, is_sized_sort, most_elements}
use Rattle.ast.specs.View.{symbol}
use Rattle.ast.specs.declared.program.Symbol.{Symbol as Named}

pub open_sort : (s : Sort) → is_sized_sort s ≡ true → list_all (λ d. not (int_lt d.upper d.lower)) (dimensions_of s) ≡ true
open_sort s h = (and_parts (list_all (λ d. not (int_lt d.upper d.lower)) (dimensions_of s)) (nat_le (size s) most_elements) h).0

pub few_elements : (s : Sort) → is_sized_sort s ≡ true → size s ≤ most_elements
few_elements s h = leb-true (size s) most_elements (and_parts (list_all (λ d. not (int_lt d.upper d.lower)) (dimensions_of s)) (nat_le (size s) most_elements) h).1

pub symbol_at : (ss : List Named) (i : ℕ) (s : Symbol) (d : Named) → slice_get (map symbol ss) i ≡ Some s → symbol (get_or ss i d) ≡ s
symbol_at [] i s d e = cc
symbol_at (t ∷ ss) zero s d e = cc
symbol_at (t ∷ ss) (suc i) s d e = symbol_at ss i s d e
