use Rattle.std.proofs.Common.{◌≡◌, map, take}
use Rattle.ast.specs.View.{item}
use Rattle.plan_check.proofs.statements.are_same_items.Given as goal

abbrev pub invariant-loop-i : goal.invariant-loop-i
invariant-loop-i l = map item (take l.i l.a) ≡ map item (take l.i l.b)
