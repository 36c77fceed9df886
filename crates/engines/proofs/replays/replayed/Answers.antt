use Rattle.std.proofs.lemmas.Result.{IfOk-weaker}
use Rattle.engines.proofs.Replayed.{replaying, unreplayed}
use Rattle.engines.proofs.replays.replayed.Goals as goal

pub returns-in-Ok : goal.returns-in-Ok
returns-in-Ok c =
    let run = rw c.in-Run.is at c.in_ok-run.ensures in
    IfOk-weaker c.answered.result _ _
    (λ page h. replaying c.args.source.now c.args.input.now c.args.schedule.now c.in-Run.run' c.in-Ok.answer page.outcome page.text.items run c.in-Ok.ensures.found h.0 h.1)
    c.answered.ensures

pub returns-in-Err-Refused : goal.returns-in-Err-Refused
returns-in-Err-Refused c =
    let run = rw c.in-Run.is at c.in_ok-run.ensures in
    let cause = rw c.in-Err-Refused.field-0-is at c.in-Err-Refused.ensures.refused in
    IfOk-weaker c.unscheduled.result _ _
    (λ page h. unreplayed c.args.source.now c.args.input.now c.args.schedule.now c.in-Run.run' c.in-Err-Refused.number c.in-Err-Refused.line page.outcome page.text.items run cause h.0 h.1)
    c.unscheduled.ensures
