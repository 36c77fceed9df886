use Rattle.std.proofs.Common.{length}
use Rattle.command_output.proofs.store.+append_further.Given as goal

abbrev pub decreases-append_further : goal.decreases-append_further
decreases-append_further l = length l.dimensions.now
