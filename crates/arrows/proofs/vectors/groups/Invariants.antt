use Rattle.std.proofs.Common.{◌≡◌, ◌+◌, drop}
use Rattle.std.specs.Prelude.{◌++◌}
use Rattle.arrows.specs.Vectors as spec
use Rattle.arrows.proofs.vectors.groups.Given as goal

abbrev pub invariant-loop-place : goal.invariant-loop-place
invariant-loop-place l = l.out.items ++ spec.groups l.grid (l.place + 1) (drop l.place l.vectors) ≡ spec.groups l.grid 1 l.vectors
