use Rattle.std.proofs.Common.{List, Option, ap}
use Rattle.machine.specs.State.{Who}
use Rattle.activities.specs.Activities.{kept_in}
use Rattle.activities.proofs.Shares.{let_go}
use Rattle.activities.proofs.holding.Activities.note.Goals as goal

pub returns-in-Parks-clause-kept : goal.returns-in-Parks-clause-kept
returns-in-Parks-clause-kept c = ap (λ (hs : List (Option Who)). record (kept_in c.args.self.now) { held = hs }) (let_go c.args.self.now.held.items c.args.q c.args.outcome c.in-Parks.is)
