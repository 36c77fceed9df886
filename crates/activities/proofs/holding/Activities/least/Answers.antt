use Rattle.std.proofs.Common.{sym, ◌∙◌}
use Rattle.activities.proofs.Leasts.{none_of, none_there}
use Rattle.activities.proofs.holding.Activities.least.Goals as goal

pub returns-then-is_none : goal.returns-then-is_none
returns-then-is_none c = none_there c.args.self.now c.requires.stand (sym c.first_ready.ensures ∙ none_of c.first_ready.result c.is_none.result c.is_none.ensures c.if-is_none.true)
