use Rattle.std.proofs.Common.{length}
use Rattle.dependence.proofs.formed.+have_same_forms.Given as goal

abbrev pub decreases-have_same_forms : goal.decreases-have_same_forms
decreases-have_same_forms l = length l.first.now
