use Rattle.std.proofs.Common.{sym, subst}
use Rattle.replay.specs.CoreView.{CoreView, point_at}
use Rattle.replay.specs.Replayed.{IsAnswer}
use Rattle.processors.proofs.Keeping.{run_of, tally_of}
use Rattle.processors.proofs.runs.Recorded.report_of.Goals as goal

pub returns-clause-run : goal.returns-clause-run
returns-clause-run g c =
    let parts = c.into_parts-schedule.ensures in
    run_of g.C.Call.code g.C.Call.input g.C.Call.processors g.C.Call.slots c.self.inside.core c.args.answer c.into_parts-schedule.result.1 c.self.invariant.0 parts.recorded.replays
    (subst (λ (x : CoreView). IsAnswer x.code (point_at x).machine c.args.answer) (sym c.self.view_is) c.requires) parts.recorded.kept parts.schedule

pub returns-clause-tally : goal.returns-clause-tally
returns-clause-tally g c =
    tally_of g.C.Call.code g.C.Call.input g.C.Call.processors g.C.Call.slots c.self.inside.core c.into_parts-schedule.result.1 c.tally-tally.result.made c.tally-tally.result.again c.self.invariant.0 c.tally-tally.ensures c.into_parts-schedule.ensures.schedule
