use Rattle.std.proofs.Common.{◌≡◌, length}
use Rattle.std.specs.Prelude.{◌-◌}
use Rattle.privatise.proofs.Changes.{joining}
use Rattle.privatise.proofs.cells.join.Given as goal

abbrev pub invariant-loop-cell : goal.invariant-loop-cell
invariant-loop-cell l = joining l.walks l.others l.cell ≡ joining l.fn.walks l.others 0

abbrev pub decreases-loop-cell : goal.decreases-loop-cell
decreases-loop-cell l = length l.walks - l.cell
