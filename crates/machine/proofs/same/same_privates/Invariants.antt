use Rattle.std.proofs.Common.{◌≡◌, map, take}
use Rattle.machine.specs.ScalarView.{scalar_of}
use Rattle.machine.proofs.same.same_privates.Given as goal

abbrev pub invariant-loop-i : goal.invariant-loop-i
invariant-loop-i l = map scalar_of (take l.i l.a) ≡ map scalar_of (take l.i l.b)
