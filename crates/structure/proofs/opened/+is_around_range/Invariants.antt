use Rattle.std.proofs.Common.{length}
use Rattle.structure.proofs.opened.+is_around_range.Given as goal

abbrev pub decreases-is_around_range : goal.decreases-is_around_range
decreases-is_around_range l = length l.structures.now
