use Rattle.std.proofs.Common.{◌≡◌, drop, map}
use Rattle.ast.specs.Tree.{arms as arms_of}
use Rattle.ast.specs.View.{arm as arm_of, block_view, letters}
use Rattle.dependence.specs.Fitting as spec
use Rattle.dependence.proofs.fitting.+inner.Given as goal

abbrev pub invariant-arms_hide-loop-arm : goal.invariant-arms_hide-loop-arm
invariant-arms_hide-loop-arm l = spec.arms_hide (map letters l.names) (arms_of (map arm_of (drop l.arm-index l.arms))) ≡ spec.arms_hide (map letters l.names) (arms_of (map arm_of l.arms))

abbrev pub invariant-hide_inner-loop-node : goal.invariant-hide_inner-loop-node
invariant-hide_inner-loop-node l = spec.hide_inner (map letters l.names) (block_view (drop l.node-index l.nodes)) ≡ spec.hide_inner (map letters l.names) (block_view l.nodes)
