use Rattle.codegen.proofs.PlanPieces.{too_few, too_many}
use Rattle.codegen.proofs.plans.is_last_stop.Goals as goal

pub returns-in_default : goal.returns-in_default
returns-in_default c = too_few c.args.body.now c.in_default.len_below

pub returns-in_default-2 : goal.returns-in_default-2
returns-in_default-2 c = too_many c.args.body.now c.in_default.len_at_least
