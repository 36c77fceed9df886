use Rattle.engines.proofs.Replayed.{timed, unpictured}
use Rattle.engines.proofs.timing.timeline_texts.Goals as goal

pub returns-in-Ok : goal.returns-in-Ok
returns-in-Ok c =
    timed c.args.source.now c.args.input.now c.args.schedule.now c.in-Run.run' c.in-Ok.answer (rw c.in-Run.is at c.in_ok-run.ensures) c.in-Ok.ensures.found

pub returns-in-Err-Refused : goal.returns-in-Err-Refused
returns-in-Err-Refused c =
    let run = rw c.in-Run.is at c.in_ok-run.ensures in
    let cause = rw c.in-Err-Refused.field-0-is at c.in-Err-Refused.ensures.refused in
    let page = c.in_ok-unscheduled-in_default.field-0 in
    let e = c.in_ok-unscheduled-in_default.ensures in
    unpictured c.args.source.now c.args.input.now c.args.schedule.now c.in-Run.run' c.in-Err-Refused.number c.in-Err-Refused.line page.outcome page.text.items run c.in_default.not-Unended cause e.0 e.1
