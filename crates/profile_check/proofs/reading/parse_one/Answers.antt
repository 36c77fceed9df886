use Rattle.fixed_form.specs.Answers.{entry}
use Rattle.profile_check.proofs.Parsing.{no-statement}
use Rattle.profile_check.proofs.reading.parse_one.Goals as goal

pub returns-clause-refused : goal.returns-clause-refused
returns-clause-refused c = no-statement c.statement.result (entry c.args.labelled.now) c.statement.ensures.refused c.statement.ensures.unfinished c.statement.ensures.exact
