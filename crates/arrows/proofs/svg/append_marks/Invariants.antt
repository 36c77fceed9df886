use Rattle.std.proofs.Common.{◌≡◌, drop}
use Rattle.std.specs.Prelude.{◌++◌}
use Rattle.arrows.specs.Markup as spec
use Rattle.arrows.proofs.svg.append_marks.Given as goal

abbrev pub invariant-loop-mark : goal.invariant-loop-mark
invariant-loop-mark l = l.out.items ++ spec.marks (drop l.mark-index l.marks) ≡ l.fn.out.items ++ spec.marks l.marks
