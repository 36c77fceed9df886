use Rattle.threaded.proofs.Answered.{replays}
use Rattle.threaded.proofs.laws.replays_are_sequential.Goals as goal

pub returns : goal.returns
returns c = replays
