use Rattle.activities.specs.Activities.{AreActivities}
use Rattle.engines.proofs.driving.steps_alone.Given as goal

abbrev pub invariant-loop : goal.invariant-loop
invariant-loop l = AreActivities l.activities
