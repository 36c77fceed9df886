use Rattle.std.proofs.Common.{◌≡◌, map, take}
use Rattle.ast.specs.View.{bounds}
use Rattle.plan_check.proofs.statements.are_same_dimensions.Given as goal

abbrev pub invariant-loop-i : goal.invariant-loop-i
invariant-loop-i l = map bounds (take l.i l.a) ≡ map bounds (take l.i l.b)
