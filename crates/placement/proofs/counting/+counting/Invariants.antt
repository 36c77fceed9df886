use Rattle.std.proofs.Common.{◌≡◌, drop, map, ◌+◌}
use Rattle.ast.specs.Tree.{arms, block}
use Rattle.ast.specs.View.{arm, node}
use Rattle.placement.specs.Placing.{arms_size, block_size}
use Rattle.placement.proofs.counting.+counting.Given as goal

abbrev pub invariant-arms_size-loop-arm : goal.invariant-arms_size-loop-arm
invariant-arms_size-loop-arm l = l.size + arms_size (arms (map arm (drop l.arm-index l.arms))) ≡ arms_size (arms (map arm l.arms))

abbrev pub invariant-block_size-loop-node : goal.invariant-block_size-loop-node
invariant-block_size-loop-node l = l.size + block_size (block (map node (drop l.node-index l.nodes))) ≡ block_size (block (map node l.nodes))
