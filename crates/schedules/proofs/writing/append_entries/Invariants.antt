use Rattle.std.proofs.Common.{◌≡◌, ◌++◌, [], length}
use Rattle.schedules.specs.Kept.{entries_of}
use Rattle.schedules.specs.Schedules.{entries_before}
use Rattle.schedules.proofs.writing.append_entries.Given as goal

abbrev pub invariant-loop-entry : goal.invariant-loop-entry
invariant-loop-entry l =
    l.out.items ++ entries_before (entries_of l.left.shorts.now l.left.picked.now) []
    ≡ l.fn.out.items ++ entries_before (entries_of l.fn.entries.shorts.now l.fn.entries.picked.now) []

abbrev pub decreases-loop-entry : goal.decreases-loop-entry
decreases-loop-entry l = length l.left.shorts.now
