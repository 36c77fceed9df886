use Rattle.std.proofs.Common.{length}
use Rattle.ready_list.specs.Lists.{list_at}
use Rattle.ec_kernel.proofs.Waking.{IsWaking}
use Rattle.ec_kernel.proofs.kernel.wake.Given as goal

abbrev pub invariant-loop-slot : goal.invariant-loop-slot
invariant-loop-slot l = IsWaking l.fn.links l.links l.list l.count l.woken

abbrev pub decreases-loop-slot : goal.decreases-loop-slot
decreases-loop-slot l = length (list_at l.links l.list)
