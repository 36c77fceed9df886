use Rattle.std.proofs.Common.{subst}
use Rattle.dependence.specs.PlanView.{plan_of}
use Rattle.loop_tree.specs.TreeView.{all_seen, seen}
use Rattle.plan_check.specs.Mistakes.{Refuses}
use Rattle.codegen.proofs.AcceptedPlans.{never_refused}
use Rattle.codegen.proofs.reports.checked.Goals as goal

pub returns-in-Err-Refused-clause-same : goal.returns-in-Err-Refused-clause-same
returns-in-Err-Refused-clause-same c =
    let view = c.args.view.now in
    let l = seen view in
    absurd (never_refused (all_seen view) l c.requires.whole view.in_turn view.told c.args.placed.plan c.requires.placed c.in-Err-Refused.field-0-0 (subst (λ f. Refuses l (plan_of c.args.placed.plan) f) c.in-Err-Refused.field-0-is c.in-Err-Refused.ensures.refused))
