use Rattle.std.proofs.Common.{◌≡◌, false, subst}
use Rattle.std.specs.Prelude.{IfOk}
use Rattle.activities.specs.Activities.{chosen}
use Rattle.unrecorded.specs.View.{RunView}
use Rattle.processors.specs.Left.{NoPickIn}
use Rattle.processors.proofs.Left.{take_none}
use Rattle.processors.proofs.runs.Unrecorded.take.Goals as goal

pub returns : goal.returns
returns g c =
    subst (λ (x : RunView). IfOk c.pick.result (λ did. did ≡ false → (c.pick.new.self ≡ x) × NoPickIn x c.args.q)) c.self.view_is
    (take_none c.self.inside.run c.pick.new.self c.args.q (chosen c.least-choice.result) c.pick.result c.least-choice.ensures c.pick.ensures.did)
