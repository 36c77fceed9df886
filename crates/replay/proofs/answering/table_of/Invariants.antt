use Rattle.std.proofs.Common.{◌≡◌, take}
use Rattle.ast.specs.View.{shapes}
use Rattle.replay.specs.Replayed.{shapes_of}
use Rattle.replay.proofs.answering.table_of.Given as goal

abbrev pub invariant-loop-variable : goal.invariant-loop-variable
invariant-loop-variable l = shapes l.table ≡ shapes_of (take l.variable-index l.variables)
