use Rattle.std.proofs.Common.{◌≡◌, drop}
use Rattle.std.specs.Prelude.{◌++◌}
use Rattle.arrows.specs.Arrows as spec
use Rattle.arrows.proofs.arrows.groups.Given as goal

abbrev pub invariant-loop-arrow : goal.invariant-loop-arrow
invariant-loop-arrow l = l.out.items ++ spec.groups l.columns l.rows l.advances (drop l.arrow-index l.arrows) ≡ spec.groups l.columns l.rows l.advances l.arrows
