use Rattle.std.proofs.Common.{length}
use Rattle.structure.proofs.opened.+is_around_block.Given as goal

abbrev pub decreases-is_around_block : goal.decreases-is_around_block
decreases-is_around_block l = length l.structures.now
