use Rattle.std.proofs.Common.{◌≡◌}
use Rattle.arrows.specs.Vectors.{each, stroke}
use Rattle.arrows.proofs.vectors.strokes_in.Given as goal

abbrev pub invariant-loop-number : goal.invariant-loop-number
invariant-loop-number l = l.out.items ≡ each l.number (stroke l.grid.top l.vector l.outer)
