use Rattle.std.proofs.Common.{◌≡◌, drop, map}
use Rattle.std.specs.Prelude.{◌++◌}
use Rattle.ast.specs.Tree.{arms, block}
use Rattle.ast.specs.View.{arm, node}
use Rattle.dependence.specs.PlanView.{arm_view, plan_node}
use Rattle.placement.specs.Listed.{awaited, inner_nodes, inner_listed_arms}
use Rattle.placement.proofs.placing.+inner.Given as goal

abbrev pub invariant-inner_range-loop-node : goal.invariant-inner_range-loop-node
invariant-inner_range-loop-node l =
    map plan_node l.list.items ++ inner_nodes l.spots.sources.items (awaited l.spots) l.statement (block (map node (drop l.node-index l.nodes)))
    ≡ inner_nodes l.spots.sources.items (awaited l.spots) l.from (block (map node l.nodes))

abbrev pub invariant-inner_arms-loop-arm : goal.invariant-inner_arms-loop-arm
invariant-inner_arms-loop-arm l =
    map arm_view l.placed.items ++ inner_listed_arms l.spots.sources.items (awaited l.spots) l.statement (arms (map arm (drop l.arm-index l.arms)))
    ≡ inner_listed_arms l.spots.sources.items (awaited l.spots) l.from (arms (map arm l.arms))
