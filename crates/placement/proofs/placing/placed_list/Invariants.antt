use Rattle.std.proofs.Common.{◌≡◌, drop, map}
use Rattle.std.specs.Prelude.{◌++◌}
use Rattle.ast.specs.Tree.{block}
use Rattle.ast.specs.View.{node}
use Rattle.dependence.specs.PlanView.{plan_node}
use Rattle.placement.specs.Listed.{awaited, placed_nodes}
use Rattle.placement.proofs.placing.placed_list.Given as goal

abbrev pub invariant-loop-node : goal.invariant-loop-node
invariant-loop-node l =
    map plan_node l.list.items ++ placed_nodes l.spots.sources.items (awaited l.spots) l.statement (block (map node (drop l.node-index l.nodes)))
    ≡ placed_nodes l.spots.sources.items (awaited l.spots) l.from (block (map node l.nodes))
