use Rattle.std.proofs.Common.{length}
use Rattle.schedules.specs.Kept.{entries_of}
use Rattle.replay.proofs.Followed.{FollowingNamed}
use Rattle.replay.proofs.upgrading.follow_naming.Given as goal

abbrev pub invariant-loop-entry : goal.invariant-loop-entry
invariant-loop-entry l =
    FollowingNamed l.schedule l.fn.activities (entries_of l.entries.shorts.now l.entries.picked.now) l.line l.activities l.named

abbrev pub decreases-loop-entry : goal.decreases-loop-entry
decreases-loop-entry l = length l.entries.shorts.now
