use Rattle.std.proofs.Common.{length}
use Rattle.schedules.specs.Kept.{entries_of}
use Rattle.states.proofs.Showing.{Showing}
use Rattle.states.proofs.following.show_entries.Given as goal

abbrev pub invariant-loop-entry : goal.invariant-loop-entry
invariant-loop-entry g l =
    Showing l.schedule l.fn.activities (entries_of l.entries.shorts.now l.entries.picked.now) l.line l.activities (g.W.Write.contents l.fn.out) (g.W.Write.contents l.out)

abbrev pub decreases-loop-entry : goal.decreases-loop-entry
decreases-loop-entry g l = length l.entries.shorts.now
