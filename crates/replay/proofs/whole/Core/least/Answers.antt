use Rattle.std.proofs.Common.{subst}
use Rattle.activities.specs.Activities.{chosen}
use Rattle.replay.specs.CoreView.{CoreView, point_at}
use Rattle.activities.specs.Least.{IsLeast}
use Rattle.activities.specs.Points.{Point}
use Rattle.replay.proofs.Onwards.{point_seen}
use Rattle.replay.proofs.whole.Core.least.Goals as goal

pub returns : goal.returns
returns c =
    let here = point_seen c.self.inside.input.now c.self.inside.activities c.self.inside.schedule c.self.inside.tally c.self.invariant.parts in
    subst (λ (V : CoreView). IsLeast (point_at V).machine (chosen c.least.result)) c.self.view_is (subst (λ (p : Point). IsLeast p.machine (chosen c.least.result)) here c.least.ensures)
