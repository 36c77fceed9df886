use Rattle.std.proofs.Common.{length}
use Rattle.engines.proofs.watching.units.Given as goal

abbrev pub decreases-loop-entry : goal.decreases-loop-entry
decreases-loop-entry l = length l.entries.shorts.now
