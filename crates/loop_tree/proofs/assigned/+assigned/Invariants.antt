use Rattle.std.proofs.Common.{◌≡◌, drop, map}
use Rattle.ast.specs.Tree.{arms}
use Rattle.ast.specs.View.{arm, block_view}
use Rattle.loop_tree.specs.Loops.{with_arms, with_block}
use Rattle.loop_tree.specs.ScalarsView.{scalars}
use Rattle.loop_tree.proofs.assigned.+assigned.Given as goal

abbrev pub invariant-add_arms-loop-arm : goal.invariant-add_arms-loop-arm
invariant-add_arms-loop-arm l =
    with_arms (scalars l.scalars) (arms (map arm (drop l.arm-index l.arms))) ≡ with_arms (scalars l.fn.scalars) (arms (map arm l.arms))

abbrev pub invariant-add_assigned-loop-node : goal.invariant-add_assigned-loop-node
invariant-add_assigned-loop-node l =
    with_block (scalars l.scalars) (block_view (drop l.node-index l.nodes)) ≡ with_block (scalars l.fn.scalars) (block_view l.nodes)
