use Rattle.std.proofs.Common.{subst, sym}
use Rattle.replay.specs.CoreView.{IsRecorded}
use Rattle.replay.specs.Stepping.{IsGoing}
use Rattle.processors.specs.Left.{NoneSteps}
use Rattle.processors.specs.Refused.{IsStuckAt}
use Rattle.processors.proofs.Keeping.{state_of}
use Rattle.processors.proofs.Left.{stuck_at}
use Rattle.processors.proofs.runs.Recorded.stuck.Goals as goal

pub returns : goal.returns
returns g c =
    let x = c.self.inside.core in
    let o = c.self.invariant.0 in
    let at = sym c.self.view_is in
    let r = subst IsRecorded at c.requires.recorded in
    state_of g.C.Call.code g.C.Call.input g.C.Call.processors g.C.Call.slots x (IsStuckAt g.C.Call.code g.C.Call.processors g.C.Call.slots) o r.replays r.kept
    (stuck_at g.C.Call.code g.C.Call.processors g.C.Call.slots x o.code_is o.processors o.slots (subst IsGoing at c.requires.going) (subst NoneSteps at c.requires.none))
