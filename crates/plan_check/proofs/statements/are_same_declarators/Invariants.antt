use Rattle.std.proofs.Common.{◌≡◌, map, take}
use Rattle.ast.specs.View.{declarator}
use Rattle.plan_check.proofs.statements.are_same_declarators.Given as goal

abbrev pub invariant-loop-i : goal.invariant-loop-i
invariant-loop-i l = map declarator (take l.i l.a) ≡ map declarator (take l.i l.b)
