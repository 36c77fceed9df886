use Rattle.std.proofs.Common.{◌≡◌, drop}
use Rattle.arrows.specs.Arrows.{row_from}
use Rattle.arrows.proofs.places.row_of.Given as goal

abbrev pub invariant-loop-place : goal.invariant-loop-place
invariant-loop-place l = row_from l.place (drop l.place l.rows) l.line ≡ row_from 0 l.rows l.line
