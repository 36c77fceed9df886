use Rattle.std.proofs.Common.{◌≡◌, [], length}
use Rattle.ec_kernel.specs.View.{IsKernel}
use Rattle.activities.proofs.holding.take_slots.Given as goal

abbrev pub invariant-loop : goal.invariant-loop
invariant-loop l = record {
  same : record l.kernel { free = [] } ≡ record l.fn.kernel { free = [] };
  kept : IsKernel l.kernel;
}

abbrev pub decreases-loop : goal.decreases-loop
decreases-loop l = length l.kernel.free
