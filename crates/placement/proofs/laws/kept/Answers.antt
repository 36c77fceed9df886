use Rattle.placement.proofs.laws.kept.Goals as goal
use Rattle.placement.proofs.Awaiting.{are_kept}

pub returns : goal.returns
returns c = are_kept
