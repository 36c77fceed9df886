use Rattle.std.proofs.Common.{◌≡◌, drop, map, ℕ}
use Rattle.std.specs.Prelude.{◌++◌}
use Rattle.dependence.specs.Plan.{PlanArms}
use Rattle.dependence.specs.PlanView.{arm_view, arms, plan_block}
use Rattle.engines.specs.Advanced.{arm_spots, spots}
use Rattle.engines.proofs.spots.+spots.Given as goal

abbrev pub invariant-add_spots-loop-node : goal.invariant-add_spots-loop-node
invariant-add_spots-loop-node l =
    l.found.items ++ spots l.here (plan_block (drop l.node-index l.nodes)) ≡ l.fn.found.items ++ spots l.fn.first (plan_block l.nodes)

abbrev pub invariant-add_arms-loop-arm : goal.invariant-add_arms-loop-arm
invariant-add_arms-loop-arm l =
    (line : ℕ) → (last : PlanArms) → l.fn.found.items ++ arm_spots line (arms (map arm_view l.arms) last)
    ≡ l.found.items ++ arm_spots line (arms (map arm_view (drop l.arm-index l.arms)) last)
