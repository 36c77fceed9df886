use Rattle.std.proofs.Common.{◌≡◌}
use Rattle.arrows.specs.Vectors.{each, strokes_in}
use Rattle.arrows.proofs.vectors.strokes.Given as goal

abbrev pub invariant-loop-outer : goal.invariant-loop-outer
invariant-loop-outer l = l.out.items ≡ each l.outer (strokes_in l.grid l.vector)
