use Rattle.subscripts.specs.View.{form}
use Rattle.subscripts.proofs.Propers.{negated_proper}
use Rattle.subscripts.proofs.adding.put_prefix.Goals as goal

pub returns-in-Minus-clause-proper : goal.returns-in-Minus-clause-proper
returns-in-Minus-clause-proper c = negated_proper (form c.args.form.now) _ c.negate.result c.requires.proper c.negate.ensures.left
