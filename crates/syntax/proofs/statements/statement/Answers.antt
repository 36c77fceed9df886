use Rattle.syntax.proofs.Public.{statement_found, statement_only, statement_refused, statement_unfinished, statement_finished, statement_exact}
use Rattle.syntax.proofs.statements.statement.Goals as goal

pub returns-clause-found : goal.returns-clause-found
returns-clause-found c = statement_found c.args.labelled.now.line c.args.labelled.now.label c.args.labelled.now.text.items c.read.result c.read.ensures

pub returns-clause-only : goal.returns-clause-only
returns-clause-only c = statement_only c.args.labelled.now.line c.args.labelled.now.label c.args.labelled.now.text.items c.read.result c.read.ensures

pub returns-clause-refused : goal.returns-clause-refused
returns-clause-refused c = statement_refused c.args.labelled.now.line c.args.labelled.now.label c.args.labelled.now.text.items c.read.result c.read.ensures

pub returns-clause-unfinished : goal.returns-clause-unfinished
returns-clause-unfinished c = statement_unfinished c.args.labelled.now.line c.args.labelled.now.label c.args.labelled.now.text.items c.read.result c.read.ensures

pub returns-clause-finished : goal.returns-clause-finished
returns-clause-finished c = statement_finished c.args.labelled.now.line c.args.labelled.now.label c.args.labelled.now.text.items c.read.result c.read.ensures

pub returns-clause-exact : goal.returns-clause-exact
returns-clause-exact c = statement_exact c.args.labelled.now.line c.args.labelled.now.label c.args.labelled.now.text.items c.read.result c.read.ensures
