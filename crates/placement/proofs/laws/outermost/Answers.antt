use Rattle.placement.proofs.laws.outermost.Goals as goal
use Rattle.placement.proofs.Eligible.{is_outermost}

pub returns : goal.returns
returns c = is_outermost
