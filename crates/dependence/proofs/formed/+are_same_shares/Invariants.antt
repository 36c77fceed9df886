use Rattle.std.proofs.Common.{length}
use Rattle.dependence.proofs.formed.+are_same_shares.Given as goal

abbrev pub decreases-are_same_shares : goal.decreases-are_same_shares
decreases-are_same_shares l = length l.first.now
