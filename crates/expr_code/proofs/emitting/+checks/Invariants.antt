use Rattle.std.proofs.Common.{length}
use Rattle.expr_code.proofs.emitting.+checks.Given as goal

abbrev pub decreases-checks : goal.decreases-checks
decreases-checks l = length l.dimensions.now
