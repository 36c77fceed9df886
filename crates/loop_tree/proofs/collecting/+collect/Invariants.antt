use Rattle.std.proofs.Common.{◌≡◌, drop, map}
use Rattle.ast.specs.Tree.{arms}
use Rattle.ast.specs.View.{arm, block_view}
use Rattle.loop_tree.specs.Collecting.{after_arms, after_block}
use Rattle.loop_tree.specs.CollectedView.{collected}
use Rattle.loop_tree.proofs.collecting.+collect.Given as goal

abbrev pub invariant-add_arms-loop-arm : goal.invariant-add_arms-loop-arm
invariant-add_arms-loop-arm l =
    after_arms l.around l.number (arms (map arm (drop l.arm-index l.arms))) (collected l.parts)
    ≡ after_arms l.around l.number (arms (map arm l.arms)) (collected l.fn.parts)

abbrev pub invariant-add_nodes-loop-node : goal.invariant-add_nodes-loop-node
invariant-add_nodes-loop-node l =
    after_block l.around (block_view (drop l.node-index l.nodes)) (collected l.parts)
    ≡ after_block l.around (block_view l.nodes) (collected l.fn.parts)
