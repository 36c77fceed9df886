use Rattle.engines.specs.Explained.{BreaksSome}
use Rattle.engines.proofs.Explaining.{some_breaks, some_on}
use Rattle.engines.proofs.Faults.{on_fault}
use Rattle.engines.proofs.explained.tell_runs.Goals as goal

pub returns-in_err-tell_run-clause-err : goal.returns-in_err-tell_run-clause-err
returns-in_err-tell_run-clause-err g c =
    let o = g.W.Write.contents c.args.out.now in
    let n = g.W.Write.contents c.tell_run.new.out in
    let fault = c.in_err-tell_run.field-0.0 in
    on_fault c.from_residual.result fault (BreaksSome o c.args.waiting.now.items n) c.from_residual.ensures.1
    (some_breaks o (g.W.Write.contents c.loop-run.out) n c.args.waiting.now.items c.loop-run.waiting.items fault c.loop-run.invariant c.in_err-tell_run.ensures.err)

pub loop-run-preserved : goal.loop-run-preserved
loop-run-preserved g c =
    some_on (g.W.Write.contents c.args.out.now) (g.W.Write.contents c.loop-run.out) (g.W.Write.contents c.tell_run.new.out) c.args.waiting.now.items c.loop-run.waiting.items c.tell_run.new.waiting.items c.loop-run.invariant c.in_ok-tell_run.ensures.ok
