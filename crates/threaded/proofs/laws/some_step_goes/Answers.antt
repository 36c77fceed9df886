use Rattle.threaded.proofs.Answered.{goes_on}
use Rattle.threaded.proofs.laws.some_step_goes.Goals as goal

pub returns : goal.returns
returns c = let recorded = c.schedule.ensures.recorded in goes_on c.args.core.now recorded.replays recorded.kept
