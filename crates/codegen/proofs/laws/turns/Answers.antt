use Rattle.codegen.proofs.laws.turns.Goals as goal
use Rattle.codegen.proofs.Turning.{its_turns}

pub returns : goal.returns
returns c = its_turns
