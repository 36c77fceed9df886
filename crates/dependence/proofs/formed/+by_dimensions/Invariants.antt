use Rattle.std.proofs.Common.{length}
use Rattle.dependence.proofs.formed.+by_dimensions.Given as goal

abbrev pub decreases-by_dimensions : goal.decreases-by_dimensions
decreases-by_dimensions l = length l.first.now
