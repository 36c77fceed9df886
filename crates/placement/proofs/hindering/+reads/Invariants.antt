use Rattle.std.proofs.Common.{◌≡◌, drop, map}
use Rattle.ast.specs.Tree.{arms as arms_of}
use Rattle.ast.specs.View.{arm as arm_of, block_view}
use Rattle.placement.specs.Hindering as spec
use Rattle.placement.proofs.hindering.+reads.Given as goal

abbrev pub invariant-read_in_arms-loop-arm : goal.invariant-read_in_arms-loop-arm
invariant-read_in_arms-loop-arm l = spec.arms_read (arms_of (map arm_of (drop l.arm-index l.arms))) ≡ spec.arms_read (arms_of (map arm_of l.arms))

abbrev pub invariant-read_in-loop-node : goal.invariant-read_in-loop-node
invariant-read_in-loop-node l = spec.first_read (block_view (drop l.node-index l.nodes)) ≡ spec.first_read (block_view l.nodes)
