use Rattle.std.proofs.Common.{◌∙◌}
use Rattle.subscripts.specs.View.{form}
use Rattle.subscripts.proofs.Rooms.{total_law}
use Rattle.subscripts.proofs.form.total_form.Goals as goal

pub returns-clause-value : goal.returns-clause-value
returns-clause-value c = c.total_step.ensures.value ∙ total_law c.args.minus (form c.args.first.now) (form c.args.second.now)
