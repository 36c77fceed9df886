use Rattle.engines.specs.Explained.{BreaksEach}
use Rattle.engines.proofs.Explaining.{telling_breaks, telling_more}
use Rattle.engines.proofs.Faults.{on_fault}
use Rattle.engines.proofs.explained.tell_each.Goals as goal

pub returns-in_err-tell_loop-clause-err : goal.returns-in_err-tell_loop-clause-err
returns-in_err-tell_loop-clause-err g c =
    let reports = c.args.reports.now in
    let o = g.W.Write.contents c.args.out.now in
    let n = g.W.Write.contents c.tell_loop.new.out in
    let fault = c.in_err-tell_loop.field-0.0 in
    on_fault c.from_residual.result fault (BreaksEach reports o c.args.waiting.now.items n) c.from_residual.ensures.1
    (telling_breaks reports c.loop-place.place c.index-reports-place.result o (g.W.Write.contents c.loop-place.out) n c.args.waiting.now.items c.loop-place.waiting.items fault
    c.loop-place-test.true c.index-reports-place.is c.loop-place.invariant c.in_err-tell_loop.ensures.err)

pub loop-place-preserved : goal.loop-place-preserved
loop-place-preserved g c =
    telling_more c.args.reports.now c.loop-place.place c.index-reports-place.result (g.W.Write.contents c.args.out.now) (g.W.Write.contents c.loop-place.out) (g.W.Write.contents c.tell_loop.new.out) c.args.waiting.now.items c.loop-place.waiting.items c.tell_loop.new.waiting.items
    c.loop-place-test.true c.index-reports-place.is c.loop-place.invariant c.in_ok-tell_loop.ensures.ok
