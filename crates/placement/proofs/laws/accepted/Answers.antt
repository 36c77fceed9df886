use Rattle.placement.proofs.laws.accepted.Goals as goal
use Rattle.placement.proofs.Acceptance.{are_accepted}

-- src/laws.rt:5:1
pub returns : goal.returns
returns c = are_accepted
