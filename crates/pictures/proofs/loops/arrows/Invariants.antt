use Rattle.std.proofs.Common.{take}
use Rattle.pictures.specs.Dependences.{AreArrows}
use Rattle.pictures.proofs.loops.arrows.Given as goal

abbrev pub invariant-loop-event : goal.invariant-loop-event
invariant-loop-event l = AreArrows l.sources (take l.event-index l.kept) l.arrows.items
