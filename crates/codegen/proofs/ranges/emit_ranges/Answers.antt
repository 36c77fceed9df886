use Rattle.std.proofs.Common.{◌∙◌, ◌+◌, ◌<◌, ap, arith, drop, length, sym}
use Rattle.ast.specs.ProgramView.{program as program_of}
use Rattle.dependence.specs.PlanView.{plan_of}
use Rattle.loop_tree.specs.TreeView.{loops_seen, seen}
use Rattle.codegen.specs.Made.{made_of, with_ranges}
use Rattle.codegen.specs.Reports.{planned_by, planned_in}
use Rattle.codegen.specs.declared.reports.LoopReport.{LoopReport}
use Rattle.codegen.proofs.RangesMade.{planned_next, with_more}
use Rattle.codegen.proofs.ranges.emit_ranges.Goals as goal

pub loop-place-preserved : goal.loop-place-preserved
loop-place-preserved c =
    let ls = loops_seen c.args.tree.now in
    let rs = c.args.reports.now in
    let k = c.loop-place.place in
    let symbols = (program_of c.args.program.now).symbols in
    let l = seen c.view-view.result in
    let r = c.index-reports-place.result in
    let rest = planned_in (drop (k + 1) ls) (drop (k + 1) rs) in
    let below : k < length rs = omega (arith, c.loop-place-test.true, c.count-place-end.ensures, c.requires.count) in
    ap (λ m. with_ranges symbols rest m) c.in_ok-emit_range.ensures
    ∙ ap (λ (q : LoopReport). with_ranges symbols rest (with_ranges symbols (planned_by l (plan_of q.plan)) (made_of c.loop-place.made))) (sym c.index-reports-place.is)
    ∙ sym (with_more symbols (planned_by l (plan_of r.plan)) rest (made_of c.loop-place.made))
    ∙ ap (λ xs. with_ranges symbols xs (made_of c.loop-place.made)) (sym (planned_next ls rs k l r c.view-view.ensures.seen below c.index-reports-place.is))
    ∙ c.loop-place.invariant
