use Rattle.std.proofs.Common.{length}
use Rattle.profile_check.proofs.arrays.+elements.Given as goal

abbrev pub decreases-elements : goal.decreases-elements
decreases-elements l = length l.dimensions.now
