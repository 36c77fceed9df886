use Rattle.std.proofs.Common.{◌≡◌, map, take}
use Rattle.ast.specs.View.{access}
use Rattle.plan_check.proofs.statements.are_same_targets.Given as goal

abbrev pub invariant-loop-i : goal.invariant-loop-i
invariant-loop-i l = map access (take l.i l.a) ≡ map access (take l.i l.b)
