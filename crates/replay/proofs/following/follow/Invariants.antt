use Rattle.std.proofs.Common.{length}
use Rattle.schedules.specs.Kept.{entries_of}
use Rattle.replay.proofs.Followed.{Following}
use Rattle.replay.proofs.following.follow.Given as goal

abbrev pub invariant-loop-entry : goal.invariant-loop-entry
invariant-loop-entry l =
    Following l.schedule.version l.schedule.processors l.schedule.slots l.schedule.entries l.fn.activities (entries_of l.entries.shorts.now l.entries.picked.now) l.line l.activities

abbrev pub decreases-loop-entry : goal.decreases-loop-entry
decreases-loop-entry l = length l.entries.shorts.now
