use Rattle.std.proofs.Common.{◌∙◌, Option, sym, ap}
use Rattle.std.specs.Prelude.{is_none, option_map}
use Rattle.machine.specs.State.{Who}
use Rattle.activities.specs.Activities.{who}
use Rattle.activities.proofs.Shares.{held_is}
use Rattle.activities.proofs.holding.Activities.is_free.Goals as goal

pub returns-in-None : goal.returns-in-None
returns-in-None c = sym (ap (λ (o : Option Who). is_none o) (held_is c.args.self.now.held.items c.args.q c.index.result.now c.index.result.now c.requires.processor c.index.ensures ∙ ap (λ o. option_map who o) c.in-None.is))

pub returns-in-Some : goal.returns-in-Some
returns-in-Some c = sym (ap (λ (o : Option Who). is_none o) (held_is c.args.self.now.held.items c.args.q c.index.result.now c.index.result.now c.requires.processor c.index.ensures ∙ ap (λ o. option_map who o) c.in-Some.is))
