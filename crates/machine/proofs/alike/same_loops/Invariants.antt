use Rattle.std.proofs.Common.{◌≡◌, map, take}
use Rattle.machine.specs.CodeView.{loop_of}
use Rattle.machine.proofs.alike.same_loops.Given as goal

abbrev pub invariant-loop-i : goal.invariant-loop-i
invariant-loop-i l = map loop_of (take l.i l.a) ≡ map loop_of (take l.i l.b)
