use Rattle.std.proofs.Common.{◌≡◌}
use Rattle.pictures.proofs.gathering.Gathered.note_cells.Given as goal

abbrev pub invariant-loop-column : goal.invariant-loop-column
invariant-loop-column l = l.self.lanes ≡ l.fn.self.lanes
