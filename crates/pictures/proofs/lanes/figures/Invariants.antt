use Rattle.std.proofs.Common.{take}
use Rattle.pictures.specs.Runs.{AreFigures}
use Rattle.pictures.proofs.lanes.figures.Given as goal

abbrev pub invariant-loop-processor : goal.invariant-loop-processor
invariant-loop-processor l = AreFigures (take l.processor l.lanes) l.text.items
