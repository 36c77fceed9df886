use Rattle.std.proofs.Common.{◌≡◌, drop, map, ◌++◌}
use Rattle.ast.specs.Tree.{terms}
use Rattle.ast.specs.View.{term}
use Rattle.expr_code.specs.Emitted.{Begins, further_code, terms_code}
use Rattle.expr_code.specs.PlacesView.{places_of}
use Rattle.expr_code.proofs.emitting.+expression.Given as goal

abbrev pub invariant-kept-loop-operand : goal.invariant-kept-loop-operand
invariant-kept-loop-operand l =
    (l.code.items ++ terms_code (places_of l.places) (terms (map term (drop l.operand-index l.expressions))) l.left ≡ l.fn.code.items ++ terms_code (places_of l.places) (terms (map term l.expressions)) l.count)
    × Begins l.fn.code.items l.code.items

abbrev pub invariant-further-loop-i : goal.invariant-further-loop-i
invariant-further-loop-i l =
    (l.code.items ++ further_code (places_of l.places) (terms (map term (drop l.i l.arguments))) l.act ≡ l.fn.code.items ++ further_code (places_of l.places) (terms (map term (drop 1 l.arguments))) l.act)
    × Begins l.fn.code.items l.code.items
