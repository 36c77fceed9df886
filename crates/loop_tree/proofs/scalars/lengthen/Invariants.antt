use Rattle.std.proofs.Common.{◌≡◌, ℕ, length}
use Rattle.std.specs.Prelude.{◌+◌, ◌-◌}
use Rattle.loop_tree.specs.Marks.{mark_at}
use Rattle.loop_tree.proofs.scalars.lengthen.Given as goal

abbrev pub invariant-loop-marks : goal.invariant-loop-marks
invariant-loop-marks l = (c : ℕ) → mark_at l.marks.items c ≡ mark_at l.fn.marks.items c

abbrev pub decreases-loop-marks : goal.decreases-loop-marks
decreases-loop-marks l = (l.cell + 1) - length l.marks.items
