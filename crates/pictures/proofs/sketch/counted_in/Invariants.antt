use Rattle.std.proofs.Common.{◌≡◌, ◌+◌, drop}
use Rattle.pictures.specs.Looks.{counted_from, counted_in}
use Rattle.pictures.proofs.sketch.counted_in.Given as goal

abbrev pub invariant-loop-place : goal.invariant-loop-place
invariant-loop-place l = counted_from (l.place + 1) (drop l.place l.sources) l.line l.found ≡ counted_in l.sources l.line
