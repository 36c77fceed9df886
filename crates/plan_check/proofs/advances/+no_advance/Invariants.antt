use Rattle.std.proofs.Common.{◌≡◌, map, drop}
use Rattle.dependence.specs.Plan.{PlanArms}
use Rattle.dependence.specs.PlanView.{arm_view, arms, plan_block}
use Rattle.plan_check.specs.Flow as spec
use Rattle.plan_check.proofs.advances.+no_advance.Given as goal

abbrev pub invariant-no_advance-loop-node : goal.invariant-no_advance-loop-node
invariant-no_advance-loop-node l = spec.no_advance (plan_block (drop l.node-index l.nodes)) ≡ spec.no_advance (plan_block l.nodes)

abbrev pub invariant-no_advance_in_arms-loop-arm : goal.invariant-no_advance_in_arms-loop-arm
invariant-no_advance_in_arms-loop-arm l =
    (last : PlanArms) → spec.no_advance_arms (arms (map arm_view l.arms) last) ≡ spec.no_advance_arms (arms (map arm_view (drop l.arm-index l.arms)) last)
