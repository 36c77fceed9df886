use Rattle.std.proofs.Common.{subst}
use Rattle.replay.specs.CoreView.{IsRecorded}
use Rattle.processors.proofs.runs.Recorded.ended.Goals as goal

pub stuck-requires-clause-recorded : goal.stuck-requires-clause-recorded
stuck-requires-clause-recorded g c = subst IsRecorded c.self.view_is c.answer.ensures.recorded
