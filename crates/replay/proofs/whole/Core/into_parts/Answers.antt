use Rattle.std.proofs.Common.{subst}
use Rattle.activities.specs.Activities.{code_in}
use Rattle.activities.specs.Points.{Point}
use Rattle.replay.specs.CoreView.{IsRecorded}
use Rattle.replay.specs.Replays.{Replays}
use Rattle.replay.proofs.Onwards.{point_seen}
use Rattle.replay.proofs.whole.Core.into_parts.Goals as goal

pub returns-clause-recorded : goal.returns-clause-recorded
returns-clause-recorded c =
    let x = c.self.inside in
    let whole = c.self.invariant in
    let replays = subst (λ (p : Point). Replays (code_in x.activities) x.input.now x.schedule p) (point_seen x.input.now x.activities x.schedule x.tally whole.parts) whole.replays in
    subst IsRecorded c.self.view_is (record { kept = whole.parts.schedule; replays = replays })
