use Rattle.std.proofs.Common.{length}
use Rattle.ast.proofs.program.+elements.Given as goal

abbrev pub decreases-elements : goal.decreases-elements
decreases-elements l = length l.dimensions.now
