use Rattle.std.proofs.Common.{◌≡◌, map, take}
use Rattle.machine.specs.CodeView.{part}
use Rattle.machine.proofs.alike.same_pieces.Given as goal

abbrev pub invariant-loop-i : goal.invariant-loop-i
invariant-loop-i l = map part (take l.i l.a) ≡ map part (take l.i l.b)
