use Rattle.std.proofs.Common.{◌∙◌}
use Rattle.subscripts.specs.View.{form}
use Rattle.subscripts.proofs.Rooms.{times_law}
use Rattle.subscripts.proofs.form.times.Goals as goal

pub returns-clause-value : goal.returns-clause-value
returns-clause-value c = c.times_step.ensures.value ∙ times_law c.args.number.now.constant (form c.args.all.now)
