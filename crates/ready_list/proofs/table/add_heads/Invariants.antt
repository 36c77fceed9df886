use Rattle.std.proofs.Common.{length}
use Rattle.ready_list.specs.Empty.{IsEmptyTable}
use Rattle.ready_list.proofs.table.add_heads.Given as goal

abbrev pub invariant-loop-list : goal.invariant-loop-list
invariant-loop-list l = IsEmptyTable l.table.items (length l.fn.table.items) l.list
