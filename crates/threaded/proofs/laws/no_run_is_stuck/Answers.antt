use Rattle.threaded.proofs.Answered.{no_answer_stuck, no_run_stuck}
use Rattle.threaded.proofs.laws.no_run_is_stuck.Goals as goal

pub returns-clause-recorded : goal.returns-clause-recorded
returns-clause-recorded c = no_run_stuck

pub returns-clause-unrecorded : goal.returns-clause-unrecorded
returns-clause-unrecorded c = no_answer_stuck
