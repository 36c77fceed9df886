use Rattle.activities.specs.Activities.{code_in, point_in}
use Rattle.activities.proofs.Proceeds.{steps_proceed}
use Rattle.activities.proofs.holding.Activities.proceed_once.Goals as goal

pub returns-then-not-is_free-clause-made : goal.returns-then-not-is_free-clause-made
returns-then-not-is_free-clause-made c = steps_proceed c.args.begins (code_in c.args.self.now) c.args.self.now.slots c.next_steps.result (point_in c.args.self.now) c.args.q (point_in c.next_steps.new.self) c.next_steps.ensures.made
