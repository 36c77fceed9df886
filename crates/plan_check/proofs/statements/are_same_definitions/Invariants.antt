use Rattle.std.proofs.Common.{◌≡◌, map, take}
use Rattle.ast.specs.View.{definition}
use Rattle.plan_check.proofs.statements.are_same_definitions.Given as goal

abbrev pub invariant-loop-i : goal.invariant-loop-i
invariant-loop-i l = map definition (take l.i l.a) ≡ map definition (take l.i l.b)
