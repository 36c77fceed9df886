use Rattle.std.proofs.Common.{List, subst, sym, ℕ}
use Rattle.engines.specs.Explained.{BreaksLoop}
use Rattle.engines.specs.Listing.{Lines}
use Rattle.engines.proofs.Explaining.{err_loop, loop_breaks_first, ok_loop}
use Rattle.engines.proofs.Faults.{on_fault}
use Rattle.engines.proofs.explained.tell_loop.Goals as goal

pub returns-in_err-tell-clause-err : goal.returns-in_err-tell-clause-err
returns-in_err-tell-clause-err g c =
    let o = g.W.Write.contents c.args.out.now in
    let n = g.W.Write.contents c.tell.new.out in
    let fault = c.in_err-tell.field-0.0 in
    let are : Lines c.args.number c.args.report.now c.deref.result.now = subst (λ (t : List ℕ). Lines c.args.number c.args.report.now t) (sym c.deref.ensures.value) c.in_ok-lines.ensures in
    on_fault c.from_residual-in_err-tell.result fault (BreaksLoop c.args.number c.args.report.now o c.args.waiting.now.items n) c.from_residual-in_err-tell.ensures.1
    (loop_breaks_first c.args.number c.args.report.now c.deref.result.now o n c.args.waiting.now.items fault are c.in_err-tell.ensures.err)

pub returns-clause-ok : goal.returns-clause-ok
returns-clause-ok g c =
    let are : Lines c.args.number c.args.report.now c.deref.result.now = subst (λ (t : List ℕ). Lines c.args.number c.args.report.now t) (sym c.deref.ensures.value) c.in_ok-lines.ensures in
    ok_loop c.tell_why.result c.args.number c.args.report.now c.deref.result.now (g.W.Write.contents c.args.out.now) (g.W.Write.contents c.tell.new.out) (g.W.Write.contents c.tell_why.new.out) c.args.waiting.now.items c.tell.new.waiting.items c.tell_why.new.waiting.items
    are c.in_ok-tell.ensures.ok c.tell_why.ensures.ok

pub returns-clause-err : goal.returns-clause-err
returns-clause-err g c =
    let are : Lines c.args.number c.args.report.now c.deref.result.now = subst (λ (t : List ℕ). Lines c.args.number c.args.report.now t) (sym c.deref.ensures.value) c.in_ok-lines.ensures in
    err_loop c.tell_why.result c.args.number c.args.report.now c.deref.result.now (g.W.Write.contents c.args.out.now) (g.W.Write.contents c.tell.new.out) (g.W.Write.contents c.tell_why.new.out) c.args.waiting.now.items c.tell.new.waiting.items
    are c.in_ok-tell.ensures.ok c.tell_why.ensures.err
