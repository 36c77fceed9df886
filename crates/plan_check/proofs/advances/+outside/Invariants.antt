use Rattle.std.proofs.Common.{◌≡◌, map, drop}
use Rattle.dependence.specs.Plan.{PlanArms}
use Rattle.dependence.specs.PlanView.{arm_view, arms, plan_block}
use Rattle.plan_check.specs.Flow as spec
use Rattle.plan_check.proofs.advances.+outside.Given as goal

abbrev pub invariant-outside-loop-node : goal.invariant-outside-loop-node
invariant-outside-loop-node l = spec.outside (plan_block (drop l.node-index l.nodes)) ≡ spec.outside (plan_block l.nodes)

abbrev pub invariant-outside_in_arms-loop-arm : goal.invariant-outside_in_arms-loop-arm
invariant-outside_in_arms-loop-arm l =
    (last : PlanArms) → spec.outside_arms (arms (map arm_view l.arms) last) ≡ spec.outside_arms (arms (map arm_view (drop l.arm-index l.arms)) last)
