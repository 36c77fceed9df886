use Rattle.std.proofs.Common.{◌≡◌, drop, map}
use Rattle.ast.specs.View.{access}
use Rattle.loop_tree.specs.Loops.{with_targets}
use Rattle.loop_tree.specs.ScalarsView.{scalars}
use Rattle.loop_tree.proofs.assigned.add_targets.Given as goal

abbrev pub invariant-loop-target : goal.invariant-loop-target
invariant-loop-target l =
    with_targets (scalars l.scalars) (map access (drop l.target-index l.targets)) ≡ with_targets (scalars l.fn.scalars) (map access l.targets)
