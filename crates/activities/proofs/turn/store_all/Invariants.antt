use Rattle.std.proofs.Common.{◌≡◌, ◌≤◌, drop, length}
use Rattle.machine.specs.CodeView.{code_of}
use Rattle.machine.specs.Laid.{count_of}
use Rattle.machine.specs.ScalarView.{scalars_of}
use Rattle.activities.specs.Turns.{cells_after}
use Rattle.activities.proofs.turn.store_all.Given as goal

abbrev pub invariant-loop-i : goal.invariant-loop-i
invariant-loop-i l = record {
  variables : l.i ≤ length l.variables;
  values : l.i ≤ length l.values;
  cells : length l.cells ≡ count_of l.code.variables.items;
  stored : cells_after (code_of l.code) (drop l.i l.variables) (drop l.i (scalars_of l.values)) l.fn.cells ≡ l.cells;
}

abbrev pub decreases-loop-i : goal.decreases-loop-i
decreases-loop-i l = l.i
