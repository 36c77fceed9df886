use Rattle.std.proofs.Common.{◌≡◌, ◌∷◌, codes, ℕ, List, [], map, refl, sym, subst, rules}
use Rattle.std.specs.List.{IsDistinct}
use Rattle.ast.specs.Store.{same_name}
use Rattle.ast.specs.Symbols.{Symbol, names_of}
use Rattle.ast.specs.View.{symbol}
use Rattle.language_tests.proofs.trees.program.Goals as goal

three : (symbols : List Symbol) → names_of symbols ≡ codes "A     " ∷ codes "K     " ∷ codes "N     " ∷ [] → IsDistinct same_name (names_of symbols)
unfolding IsDistinct
three symbols e = subst (λ (names : List (List ℕ)). IsDistinct same_name names) (sym e) ((refl, (refl, tt)), ((refl, tt), (tt, tt)))

pub invariant_of-result-clause-distinct : goal.invariant_of-result-clause-distinct
invariant_of-result-clause-distinct c = three (map symbol c.in_ok-from_array.field-0.items) (search rules)
