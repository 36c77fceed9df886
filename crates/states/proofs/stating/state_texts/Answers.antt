use Rattle.std.proofs.Common.{◌+◌, ap, inr}
use Rattle.states.proofs.Streamed.{finished, no_run, part, stopped}
use Rattle.states.proofs.stating.state_texts.Goals as goal

pub returns-in-Refused : goal.returns-in-Refused
returns-in-Refused g c =
    no_run c.args.source.now c.args.input.now c.args.schedule.now c.in-Refused.page (g.W.Write.contents c.args.out.now) (g.W.Write.contents c.put.new.out) c.put.result
    (rw c.in-Refused.is at c.in_ok-run.ensures) c.put.ensures.page

pub returns-in-Ok-show : goal.returns-in-Ok-show
returns-in-Ok-show g c =
    finished c.args.source.now c.args.input.now c.args.schedule.now c.in-Run.run' c.in-Ok.activities c.show.new.activities (2 + c.len.result) c.last_page.result
    (g.W.Write.contents c.args.out.now) (g.W.Write.contents c.show.new.out) (g.W.Write.contents c.put-in-Ok-show.new.out) c.put-in-Ok-show.result
    (rw c.in-Run.is at c.in_ok-run.ensures) (record { code_is = c.in-Ok.ensures.are.code_is; point = c.in-Ok.ensures.point })
    c.in-Ok-show.ensures.shown (ap (λ n. 2 + n) c.len.ensures.is) c.last_page.ensures c.put-in-Ok-show.ensures.page c.put-in-Ok-show.ensures.memory

pub returns-in-Err-Replay-Refused : goal.returns-in-Err-Replay-Refused
returns-in-Err-Replay-Refused g c =
    let refused = c.in-Err-Replay-Refused in
    let put = c.put-in-Err-Replay-Refused in
    stopped c.args.source.now c.args.input.now c.args.schedule.now c.in-Run.run' c.in-Ok.activities refused.number refused.line c.unscheduled.result
    (g.W.Write.contents c.args.out.now) (g.W.Write.contents c.show.new.out) (g.W.Write.contents put.new.out) put.result
    (rw c.in-Run.is at c.in_ok-run.ensures) (record { code_is = c.in-Ok.ensures.are.code_is; point = c.in-Ok.ensures.point })
    (rw refused.field-0-0-is at rw refused.field-0-is at refused.ensures.halted) c.unscheduled.ensures put.ensures.page put.ensures.memory

pub returns-in-Err-Replay-Memory : goal.returns-in-Err-Replay-Memory
returns-in-Err-Replay-Memory g c =
    inr (part c.args.source.now c.args.input.now c.args.schedule.now c.in-Run.run' c.in-Ok.activities (g.W.Write.contents c.args.out.now) (g.W.Write.contents c.show.new.out)
    (rw c.in-Run.is at c.in_ok-run.ensures) (record { code_is = c.in-Ok.ensures.are.code_is; point = c.in-Ok.ensures.point })
    (rw c.in-Err-Replay-Memory.field-0-0-is at rw c.in-Err-Replay-Memory.field-0-is at c.in-Err-Replay-Memory.ensures.halted))

pub returns : goal.returns
returns g c =
    inr (part c.args.source.now c.args.input.now c.args.schedule.now c.in-Run.run' c.in-Ok.activities (g.W.Write.contents c.args.out.now) (g.W.Write.contents c.show.new.out)
    (rw c.in-Run.is at c.in_ok-run.ensures) (record { code_is = c.in-Ok.ensures.are.code_is; point = c.in-Ok.ensures.point })
    (rw c.in-Err-Writing.field-0-is at c.in-Err-Writing.ensures.halted))
