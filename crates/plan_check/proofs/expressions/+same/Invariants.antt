use Rattle.std.proofs.Common.{◌≡◌, map, take}
use Rattle.ast.specs.View.{term}
use Rattle.plan_check.proofs.expressions.+same.Given as goal

abbrev pub invariant-are_same_one_by_one-loop-i : goal.invariant-are_same_one_by_one-loop-i
invariant-are_same_one_by_one-loop-i l = map term (take l.i l.a) ≡ map term (take l.i l.b)
