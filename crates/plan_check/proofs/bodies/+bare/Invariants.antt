use Rattle.std.proofs.Common.{◌≡◌, map, drop}
use Rattle.dependence.specs.Plan.{PlanArms}
use Rattle.dependence.specs.PlanView.{arm_view, arms, plan_block}
use Rattle.plan_check.specs.GoodPlan.{made_bare, made_bare_arms}
use Rattle.plan_check.proofs.bodies.+bare.Given as goal

abbrev pub invariant-is_bare-loop-node : goal.invariant-is_bare-loop-node
invariant-is_bare-loop-node l = made_bare (plan_block (drop l.node-index l.nodes)) ≡ made_bare (plan_block l.nodes)

abbrev pub invariant-are_bare_arms-loop-arm : goal.invariant-are_bare_arms-loop-arm
invariant-are_bare_arms-loop-arm l =
    (last : PlanArms) → made_bare_arms (arms (map arm_view l.arms) last) ≡ made_bare_arms (arms (map arm_view (drop l.arm-index l.arms)) last)
