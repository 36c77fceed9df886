use Rattle.plan_check.specs.Checking.{cells_of}
use Rattle.plan_check.proofs.Sound.{accepted_is_good}
use Rattle.plan_check.proofs.law.checked_is_good.Goals as goal

pub returns : goal.returns
returns c = λ l p turn told ok. accepted_is_good (cells_of l) l p turn told ok
