use Rattle.std.proofs.Common.{◌≡◌, ◌∙◌, ◌++◌, ◌∷◌, [], ◌<◌, ap, arith, length, map, rules, sym, false, true}
use Rattle.ast.specs.declared.expression.RefId.{RefId}
use Rattle.std.specs.Prelude.{is_some}
use Rattle.dependence.specs.PlanView.{plan_of}
use Rattle.loop_tree.specs.TreeView.{loops_seen, seen}
use Rattle.codegen.specs.Program.{Planned}
use Rattle.codegen.specs.Reports.{planned_in}
use Rattle.codegen.specs.declared.reports.LoopReport.{LoopReport}
use Rattle.codegen.proofs.RangesMade.{mapped_end, variable_next}
use Rattle.codegen.proofs.ranges.variables_of.Goals.{then-is_open+in_ok-push, else-is_open}
use Rattle.codegen.proofs.ranges.variables_of.Goals as goal

pub loop-place-preserved : goal.loop-place-preserved
loop-place-preserved c =
    let ls = loops_seen c.args.tree.now in
    let rs = c.args.reports.now in
    let k = c.loop-place.place in
    let l = seen c.view-view.result in
    let r = c.index-reports-place.result in
    let target = map (λ (x : Planned). x.loop.head.variable.id) (planned_in ls rs) in
    let below : k < length rs = omega (arith, c.loop-place-test.true, c.count-place-end.ensures, c.requires.count) in
    elim c.if-is_open.branch [
      | then-is_open+in_ok-push w ↦
          let grown : w.push.new.self.items ≡ c.loop-place.variables.items ++ w.head.result.now.variable.id ∷ [] = search (rules, w.in_ok-push.ensures.items) in
          let pushed : map (λ (v : RefId). v.0) c.if-is_open.variables.items ≡ map (λ (v : RefId). v.0) c.loop-place.variables.items ++ l.head.variable.id ∷ [] =
          ap (λ v. map (λ (x : RefId). x.0) v.items) w.variables-is
          ∙ ap (λ vs. map (λ (x : RefId). x.0) vs) grown
          ∙ mapped_end (λ (x : RefId). x.0) c.loop-place.variables.items w.head.result.now.variable.id
          ∙ ap (λ h. map (λ (x : RefId). x.0) c.loop-place.variables.items ++ h.variable.id ∷ []) w.head.ensures in
          variable_next ls rs k l r c.view-view.ensures.seen below c.index-reports-place.is (map (λ (v : RefId). v.0) c.loop-place.variables.items) (map (λ (v : RefId). v.0) c.if-is_open.variables.items) target true (sym w.if-is_open.true ∙ c.is_open.ensures ∙ ap (λ (q : LoopReport). is_some (plan_of q.plan)) (sym c.index-reports-place.is)) pushed c.loop-place.invariant
      | else-is_open w ↦
          let kept = ap (λ v. map (λ (x : RefId). x.0) v.items) w.variables-is in
          variable_next ls rs k l r c.view-view.ensures.seen below c.index-reports-place.is (map (λ (v : RefId). v.0) c.loop-place.variables.items) (map (λ (v : RefId). v.0) c.if-is_open.variables.items) target false (sym w.if-is_open.false ∙ c.is_open.ensures ∙ ap (λ (q : LoopReport). is_some (plan_of q.plan)) (sym c.index-reports-place.is)) kept c.loop-place.invariant
    ]
