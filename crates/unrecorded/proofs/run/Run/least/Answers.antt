use Rattle.std.proofs.Common.{subst}
use Rattle.activities.specs.Activities.{chosen}
use Rattle.activities.specs.Least.{IsLeast}
use Rattle.unrecorded.specs.View.{RunView, point_at}
use Rattle.unrecorded.proofs.run.Run.least.Goals as goal

pub returns : goal.returns
returns c = subst (λ (x : RunView). IsLeast (point_at x).machine (chosen c.least.result)) c.self.view_is c.least.ensures
