use Rattle.std.proofs.Common.{◌≡◌, drop, map}
use Rattle.dependence.specs.Plan.{PlanArms}
use Rattle.dependence.specs.PlanView.{arm_view, arms, plan_block}
use Rattle.plan_check.specs.Listing.{with_arms, with_block}
use Rattle.plan_check.proofs.events.+events.Given as goal

abbrev pub invariant-add_block-loop-node : goal.invariant-add_block-loop-node
invariant-add_block-loop-node l = with_block (plan_block (drop l.node-index l.nodes)) l.list.items ≡ with_block (plan_block l.nodes) l.fn.list.items

abbrev pub invariant-add_arms-loop-arm : goal.invariant-add_arms-loop-arm
invariant-add_arms-loop-arm l =
    (last : PlanArms) → with_arms (arms (map arm_view l.arms) last) l.fn.list.items ≡ with_arms (arms (map arm_view (drop l.arm-index l.arms)) last) l.list.items
