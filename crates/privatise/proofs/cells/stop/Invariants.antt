use Rattle.std.proofs.Common.{◌≡◌, length}
use Rattle.std.specs.Prelude.{◌-◌}
use Rattle.privatise.proofs.Changes.{stopping}
use Rattle.privatise.proofs.cells.stop.Given as goal

abbrev pub invariant-loop-cell : goal.invariant-loop-cell
invariant-loop-cell l = stopping l.walks l.cell ≡ stopping l.fn.walks 0

abbrev pub decreases-loop-cell : goal.decreases-loop-cell
decreases-loop-cell l = length l.walks - l.cell
