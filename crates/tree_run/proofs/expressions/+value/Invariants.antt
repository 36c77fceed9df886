use Rattle.std.proofs.Common.{◌≡◌, drop, map}
use Rattle.ast.specs.Tree.{terms}
use Rattle.ast.specs.Symbols.{elements}
use Rattle.ast.specs.View.{extent, term}
use Rattle.tree_run.specs.Placed.{PlacedTerms}
use Rattle.tree_run.specs.Steps.{evaluated, greatest_at, least_at, opening, place_at, room}
use Rattle.tree_run.specs.View.{look, symbols_in, way}
use Rattle.tree_run.proofs.expressions.+value.Given as goal

abbrev pub invariant-evaluate-loop-expression : goal.invariant-evaluate-loop-expression
invariant-evaluate-loop-expression l =
    (evaluated (look l.memory) (terms (map term (drop l.expression-index l.expressions))) ≡ evaluated (look l.memory) (terms (map term l.expressions)))
    × PlacedTerms (symbols_in l.memory) (terms (map term (drop l.expression-index l.expressions)))

abbrev pub invariant-greatest-loop-other : goal.invariant-greatest-loop-other
invariant-greatest-loop-other l =
    (greatest_at (look l.memory) l.best (terms (map term (drop l.other-index l.others))) ≡ greatest_at (look l.memory) l.fn.first (terms (map term l.others)))
    × PlacedTerms (symbols_in l.memory) (terms (map term (drop l.other-index l.others)))

abbrev pub invariant-least-loop-other : goal.invariant-least-loop-other
invariant-least-loop-other l =
    (least_at (look l.memory) l.best (terms (map term (drop l.other-index l.others))) ≡ least_at (look l.memory) l.fn.first (terms (map term l.others)))
    × PlacedTerms (symbols_in l.memory) (terms (map term (drop l.other-index l.others)))

abbrev pub invariant-place-loop-subscript : goal.invariant-place-loop-subscript
invariant-place-loop-subscript l = record {
  room : room (way l.walk) ≡ elements (map extent l.dimensions);
  at : place_at (look l.memory) (way l.walk) (terms (map term (drop l.subscript-index l.subscripts))) ≡ place_at (look l.memory) (opening (map extent l.dimensions)) (terms (map term l.subscripts));
  placed : PlacedTerms (symbols_in l.memory) (terms (map term (drop l.subscript-index l.subscripts)));
}
