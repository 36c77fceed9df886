use Rattle.expressions.proofs.Public.{expression_found, expression_only, expression_refused}
use Rattle.expressions.proofs.parse.expr.Goals as goal

pub returns-clause-found : goal.returns-clause-found
returns-clause-found c = expression_found c.args.line c.args.text.now c.read.result c.read.ensures

pub returns-clause-only : goal.returns-clause-only
returns-clause-only c = expression_only c.args.line c.args.text.now c.read.result c.read.ensures

pub returns-clause-refused : goal.returns-clause-refused
returns-clause-refused c = expression_refused c.args.line c.args.text.now c.read.result c.read.ensures
