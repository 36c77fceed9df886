use Rattle.ec_kernel.proofs.Beginning.{IsFreeing}
use Rattle.ec_kernel.proofs.kernel.free_all.Given as goal

abbrev pub invariant-loop-slot : goal.invariant-loop-slot
invariant-loop-slot l = IsFreeing l.fn.links l.links l.slot
