use Rattle.std.proofs.Common.{length}
use Rattle.profile_check.proofs.nesting.+end_ranges.Given as goal

abbrev pub decreases-end_ranges : goal.decreases-end_ranges
decreases-end_ranges l = length l.nest.frames.items
