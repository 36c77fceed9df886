use Rattle.engines.specs.Explained.{BreaksSome}
use Rattle.engines.proofs.Explaining.{some_breaks, some_on}
use Rattle.engines.proofs.Faults.{on_fault}
use Rattle.engines.proofs.explained.tell_run.Goals as goal

pub returns-in_err-tell_part-clause-err : goal.returns-in_err-tell_part-clause-err
returns-in_err-tell_part-clause-err g c =
    let o = g.W.Write.contents c.args.out.now in
    let n = g.W.Write.contents c.tell_part.new.out in
    let fault = c.in_err-tell_part.field-0.0 in
    on_fault c.from_residual.result fault (BreaksSome o c.args.waiting.now.items n) c.from_residual.ensures.1
    (some_breaks o (g.W.Write.contents c.loop-part.out) n c.args.waiting.now.items c.loop-part.waiting.items fault c.loop-part.invariant c.in_err-tell_part.ensures.err)

pub loop-part-preserved : goal.loop-part-preserved
loop-part-preserved g c =
    some_on (g.W.Write.contents c.args.out.now) (g.W.Write.contents c.loop-part.out) (g.W.Write.contents c.tell_part.new.out) c.args.waiting.now.items c.loop-part.waiting.items c.tell_part.new.waiting.items c.loop-part.invariant c.in_ok-tell_part.ensures.ok
