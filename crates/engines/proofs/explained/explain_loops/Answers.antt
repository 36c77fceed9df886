use Rattle.command_output.specs.declared.fault.EngineFault.TheVariants.{Memory}
use Rattle.engines.proofs.Explaining.{each_breaks, end_breaks, none_written, streams_fault}
use Rattle.engines.proofs.explained.explain_loops.Goals as goal

pub returns-in_err-tree : goal.returns-in_err-tree
returns-in_err-tree g c =
    let reports = c.args.reports.now in
    let o = g.W.Write.contents c.args.out.now in
    streams_fault c.from_residual.result Memory reports o o c.from_residual.ensures.1 (none_written reports o)

pub returns-in_err-tell_each : goal.returns-in_err-tell_each
returns-in_err-tell_each g c =
    let reports = c.args.reports.now in
    let o = g.W.Write.contents c.args.out.now in
    let n = g.W.Write.contents c.tell_each.new.out in
    let fault = c.in_err-tell_each.field-0.0 in
    streams_fault c.from_residual-in_err-tell_each.result fault reports o n c.from_residual-in_err-tell_each.ensures.1
    (each_breaks reports o n c.new-waiting.result.items fault c.new-waiting.ensures.items c.in_err-tell_each.ensures.err)

pub returns-in_err-hand : goal.returns-in_err-hand
returns-in_err-hand g c =
    let reports = c.args.reports.now in
    let o = g.W.Write.contents c.args.out.now in
    let n = g.W.Write.contents c.hand.new.out in
    let fault = c.in_err-hand.field-0.0 in
    streams_fault c.from_residual-in_err-hand.result fault reports o n c.from_residual-in_err-hand.ensures.1
    (end_breaks reports o (g.W.Write.contents c.tell_each.new.out) n c.new-waiting.result.items c.tell_each.new.waiting.items fault
    c.new-waiting.ensures.items c.in_ok-tell_each.ensures.ok c.in_err-hand.ensures.err)
