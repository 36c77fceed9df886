use Rattle.std.proofs.Common.{◌≡◌, drop, map}
use Rattle.std.specs.Prelude.{◌++◌, true}
use Rattle.ast.specs.Tree.{arms, block}
use Rattle.ast.specs.View.{arm, node}
use Rattle.dependence.specs.PlanView.{arm_view, plan_node}
use Rattle.placement.specs.Listed.{awaited, opening, placed_nodes, listed_arms}
use Rattle.placement.proofs.placing.+placed.Given as goal

abbrev pub invariant-open_range-loop-node : goal.invariant-open_range-loop-node
invariant-open_range-loop-node l =
    map plan_node l.list.items ++ placed_nodes l.spots.sources.items (awaited l.spots) l.statement (block (map node (drop l.node-index l.nodes)))
    ≡ opening l.spots.sources.items l.first l.behind l.from (block (map node l.nodes)) ++ placed_nodes l.spots.sources.items (awaited l.spots) l.from (block (map node l.nodes))

abbrev pub invariant-placed_arms-loop-arm : goal.invariant-placed_arms-loop-arm
invariant-placed_arms-loop-arm l =
    map arm_view l.placed.items ++ listed_arms l.spots.sources.items (awaited l.spots) l.is_open l.first l.behind l.statement (arms (map arm (drop l.arm-index l.arms)))
    ≡ listed_arms l.spots.sources.items (awaited l.spots) true l.first l.behind l.first (arms (map arm l.arms))
