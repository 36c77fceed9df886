use Rattle.dependence.proofs.Greatest.{greatest}
use Rattle.dependence.proofs.laws.greatest_divisor.Goals as goal

pub returns : goal.returns
returns c = greatest
