use Rattle.activities.proofs.Leasts.{main_there}
use Rattle.activities.proofs.holding.Activities.main_is_ready.Goals as goal

pub returns : goal.returns
returns c = main_there c.is_due.result c.args.self.now c.requires.stand c.is_due.ensures
