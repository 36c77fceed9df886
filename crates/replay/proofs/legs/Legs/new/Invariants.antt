use Rattle.std.proofs.Common.{◌-◌, length}
use Rattle.replay.specs.Striding.{AllLegs}
use Rattle.replay.proofs.legs.Legs.new.Given as goal

abbrev pub invariant-loop-legs : goal.invariant-loop-legs
invariant-loop-legs l = AllLegs l.code.instructions.items 0 l.legs.items

abbrev pub decreases-loop-legs : goal.decreases-loop-legs
decreases-loop-legs l = length l.code.instructions.items - length l.legs.items
