use Rattle.std.proofs.Common.{◌∙◌, sym}
use Rattle.activities.proofs.Picks.{chosen_below, chosen_only, chosen_rule}
use Rattle.activities.proofs.holding.Activities.choice.Goals as goal

pub number_at-requires : goal.number_at-requires
number_at-requires c = chosen_below c.args.self.now c.in-Some.slot c.requires.stand (sym c.first_ready.ensures ∙ c.in-Some.is) c.in-Some.slot-test.1

pub returns-in-Some-clause-rule : goal.returns-in-Some-clause-rule
returns-in-Some-clause-rule c = chosen_rule c.args.self.now c.in-Some.slot c.number_at.result c.requires.stand (sym c.first_ready.ensures ∙ c.in-Some.is) c.in-Some.slot-test.1 c.number_at.ensures

pub returns-in-Some-clause-only : goal.returns-in-Some-clause-only
returns-in-Some-clause-only c x q b h p = chosen_only c.args.self.now c.in-Some.slot c.number_at.result x q b c.requires.stand (sym c.first_ready.ensures ∙ c.in-Some.is) c.in-Some.slot-test.1 c.number_at.ensures h p
