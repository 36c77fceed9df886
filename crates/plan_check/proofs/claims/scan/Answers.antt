use Rattle.std.proofs.Common.{◌+◌, ◌∙◌, ap, drop, sym}
use Rattle.std.proofs.lemmas.List.{drop_more}
use Rattle.dependence.specs.Runs.{runs}
use Rattle.plan_check.specs.Checking.{claimed}
use Rattle.plan_check.proofs.Claimed.{chosen_no}
use Rattle.plan_check.proofs.claims.scan.Goals as goal

pub loop-run-preserved : goal.loop-run-preserved
loop-run-preserved c =
    let ks = c.args.relations.now.different.items in
    let rest = drop (c.loop-run.run-index + 1) c.args.runs.now in
    sym
    (ap (λ rs. claimed (runs ks rs) c.args.first c.args.second) (drop_more c.args.runs.now c.loop-run.run-index _ c.loop-run-test.true)
    ∙ c.has.ensures ks (runs ks rest)
    ∙ chosen_no c.has.result _ _ c.if-has.false)
    ∙ c.loop-run.invariant
