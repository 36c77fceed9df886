use Rattle.std.proofs.Common.{◌≡◌, drop}
use Rattle.arrows.specs.Arrows as spec
use Rattle.arrows.proofs.arrows.leaving.Given as goal

abbrev pub invariant-loop-advance : goal.invariant-loop-advance
invariant-loop-advance l = spec.leaving (drop l.advance-index l.advances) l.event l.source ≡ spec.leaving l.advances l.event l.source
