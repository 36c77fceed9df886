use Rattle.ready_list.specs.Empty.{IsEmptyTable}
use Rattle.ready_list.proofs.table.free_slots.Given as goal

abbrev pub invariant-loop-slot : goal.invariant-loop-slot
invariant-loop-slot l = IsEmptyTable l.table.items l.slot 0
