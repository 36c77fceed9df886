use Rattle.activities.proofs.Leasts.{due_at}
use Rattle.activities.proofs.Picks.{place_stands}
use Rattle.activities.proofs.holding.Activities.is_ready.Goals as goal

pub stands_ready-requires-clause-stands : goal.stands_ready-requires-clause-stands
stands_ready-requires-clause-stands c = place_stands c.args.k c.place_of-at.result c.index.result.now c.args.self.now c.requires.stand c.place_of-at.ensures c.index.ensures

pub returns : goal.returns
returns c = due_at c.args.k c.place_of-at.result c.index.result.now c.stands_ready.result c.args.self.now c.requires.stand c.place_of-at.ensures c.index.ensures c.stands_ready.ensures
