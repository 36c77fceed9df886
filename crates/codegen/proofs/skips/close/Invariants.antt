use Rattle.std.proofs.Common.{◌≡◌, ◌≤◌, drop, length}
use Rattle.codegen.specs.Blocks.{closed}
use Rattle.codegen.proofs.skips.close.Given as goal

abbrev pub invariant-loop-left : goal.invariant-loop-left
invariant-loop-left l = (l.left ≤ length l.pending) × (l.code.items ≡ closed (length l.fn.code.items) (drop l.left l.pending) l.fn.code.items)

abbrev pub decreases-loop-left : goal.decreases-loop-left
decreases-loop-left l = l.left
