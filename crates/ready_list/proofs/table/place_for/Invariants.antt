use Rattle.std.proofs.Common.{get_or, []}
use Rattle.ready_list.specs.Table.{lists_of}
use Rattle.ready_list.proofs.Searching.{IsTried, rank}
use Rattle.ready_list.proofs.table.place_for.Given as goal

abbrev pub invariant-loop-place : goal.invariant-loop-place
invariant-loop-place l = IsTried l.table l.slots l.list l.value l.place

abbrev pub decreases-loop-place : goal.decreases-loop-place
decreases-loop-place l = rank l.place (get_or (lists_of l.table l.slots) l.list [])
