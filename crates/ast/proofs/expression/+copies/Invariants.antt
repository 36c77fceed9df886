use Rattle.std.proofs.Common.{◌≡◌, map, take}
use Rattle.ast.specs.View.{term}
use Rattle.ast.proofs.expression.+copies.Given as goal

abbrev pub invariant-copies_of-loop-expression : goal.invariant-copies_of-loop-expression
invariant-copies_of-loop-expression l = map term l.copies.items ≡ map term (take l.expression-index l.expressions)
