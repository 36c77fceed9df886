use Rattle.threaded.proofs.Answered.{runs_recorded, runs_unrecorded}
use Rattle.threaded.proofs.laws.runs_are_sequential.Goals as goal

pub returns-clause-recorded : goal.returns-clause-recorded
returns-clause-recorded c = runs_recorded

pub returns-clause-unrecorded : goal.returns-clause-unrecorded
returns-clause-unrecorded c = runs_unrecorded
