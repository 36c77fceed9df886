use Rattle.std.proofs.Common.{◌≡◌, drop, map}
use Rattle.ast.specs.Tree.{arms as arms_of}
use Rattle.ast.specs.View.{arm as arm_of, block_view}
use Rattle.dependence.specs.Fitting as spec
use Rattle.dependence.proofs.fitting.+reads.Given as goal

abbrev pub invariant-arms_read-loop-arm : goal.invariant-arms_read-loop-arm
invariant-arms_read-loop-arm l = spec.arms_read (arms_of (map arm_of (drop l.arm-index l.arms))) ≡ spec.arms_read (arms_of (map arm_of l.arms))

abbrev pub invariant-reads-loop-node : goal.invariant-reads-loop-node
invariant-reads-loop-node l = spec.reads (block_view (drop l.node-index l.nodes)) ≡ spec.reads (block_view l.nodes)
