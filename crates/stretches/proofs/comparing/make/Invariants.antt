use Rattle.std.proofs.Common.{length, ◌-◌, ◌≡◌, ◌≤◌, true, take}
use Rattle.stretches.specs.Notes.{all_hold, cells_by}
use Rattle.stretches.proofs.comparing.make.Given as goal

abbrev pub invariant-loop-made : goal.invariant-loop-made
invariant-loop-made l = (l.made ≤ length l.notes) × (all_hold (take l.made l.notes) l.fn.cells ≡ true) × (l.cells ≡ cells_by (take l.made l.notes) l.fn.cells)

abbrev pub decreases-loop-made : goal.decreases-loop-made
decreases-loop-made l = length l.notes - l.made
