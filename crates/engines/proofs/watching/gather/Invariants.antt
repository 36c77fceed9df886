use Rattle.std.proofs.Common.{length}
use Rattle.activities.specs.Activities.{AreActivities}
use Rattle.engines.proofs.watching.gather.Given as goal

abbrev pub invariant-loop-entry : goal.invariant-loop-entry
invariant-loop-entry l = AreActivities l.activities

abbrev pub decreases-loop-entry : goal.decreases-loop-entry
decreases-loop-entry l = length l.entries.shorts.now
