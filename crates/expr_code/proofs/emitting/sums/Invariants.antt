use Rattle.std.proofs.Common.{◌≡◌, ◌++◌}
use Rattle.expr_code.specs.Emitted.{Begins, sums_code}
use Rattle.expr_code.proofs.emitting.sums.Given as goal

abbrev pub invariant-loop-left : goal.invariant-loop-left
invariant-loop-left l = (l.code.items ++ sums_code l.line l.left ≡ l.fn.code.items ++ sums_code l.line l.count) × Begins l.fn.code.items l.code.items

abbrev pub decreases-loop-left : goal.decreases-loop-left
decreases-loop-left l = l.left
