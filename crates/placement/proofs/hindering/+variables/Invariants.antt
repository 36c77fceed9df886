use Rattle.std.proofs.Common.{◌≡◌, drop, map}
use Rattle.ast.specs.Tree.{arms as arms_of}
use Rattle.ast.specs.View.{arm as arm_of, block_view, letters}
use Rattle.placement.specs.Hindering as spec
use Rattle.placement.proofs.hindering.+variables.Given as goal

abbrev pub invariant-shared_in_arms-loop-arm : goal.invariant-shared_in_arms-loop-arm
invariant-shared_in_arms-loop-arm l = spec.arms_shared (map letters l.names) (arms_of (map arm_of (drop l.arm-index l.arms))) ≡ spec.arms_shared (map letters l.names) (arms_of (map arm_of l.arms))

abbrev pub invariant-shared_in-loop-node : goal.invariant-shared_in-loop-node
invariant-shared_in-loop-node l = spec.first_shared (map letters l.names) (block_view (drop l.node-index l.nodes)) ≡ spec.first_shared (map letters l.names) (block_view l.nodes)
