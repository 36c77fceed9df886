use Rattle.std.proofs.Common.{◌≡◌, ◌≤◌, drop, length, map}
use Rattle.ast.specs.Tree.{terms}
use Rattle.ast.specs.View.{term}
use Rattle.expr_code.specs.Computes.{operands_further, operands_kept}
use Rattle.expr_code.specs.Emitted.{short}
use Rattle.expr_code.proofs.room.+operands.Given as goal

abbrev pub invariant-kept-loop-number : goal.invariant-kept-loop-number
invariant-kept-loop-number l = (l.most ≡ short (operands_kept (terms (map term (drop l.number l.expressions))))) × (l.number ≤ length l.expressions)

abbrev pub decreases-kept-loop-number : goal.decreases-kept-loop-number
decreases-kept-loop-number l = l.number

abbrev pub invariant-further-loop-number : goal.invariant-further-loop-number
invariant-further-loop-number l = (l.most ≡ short (operands_further (terms (map term (drop l.number l.arguments))))) × (l.number ≤ length l.arguments) × (1 ≤ length l.arguments → 1 ≤ l.number)

abbrev pub decreases-further-loop-number : goal.decreases-further-loop-number
decreases-further-loop-number l = l.number
