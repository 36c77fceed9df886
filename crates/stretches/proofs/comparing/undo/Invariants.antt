use Rattle.std.proofs.Common.{length, ◌≡◌, ◌≤◌, take}
use Rattle.stretches.specs.Notes.{undone}
use Rattle.stretches.proofs.comparing.undo.Given as goal

abbrev pub invariant-loop-left : goal.invariant-loop-left
invariant-loop-left l = (l.left ≤ length l.notes) × (undone (take l.left l.notes) l.cells ≡ undone (take l.made l.notes) l.fn.cells)

abbrev pub decreases-loop-left : goal.decreases-loop-left
decreases-loop-left l = l.left
