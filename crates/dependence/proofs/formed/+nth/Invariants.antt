use Rattle.std.proofs.Common.{length}
use Rattle.dependence.proofs.formed.+nth.Given as goal

abbrev pub decreases-nth : goal.decreases-nth
decreases-nth l = length l.forms.now
