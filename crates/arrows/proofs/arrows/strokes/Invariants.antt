use Rattle.std.proofs.Common.{◌≡◌}
use Rattle.arrows.specs.Arrows.{arrow_in, strokes}
use Rattle.arrows.proofs.arrows.strokes.Given as goal

abbrev pub invariant-loop-column : goal.invariant-loop-column
invariant-loop-column l = l.out.items ≡ strokes l.column (arrow_in l.ends l.distance)
