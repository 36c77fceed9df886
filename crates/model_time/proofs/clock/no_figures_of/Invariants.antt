use Rattle.std.proofs.Common.{◌≡◌, ◌≤◌, ◌-◌, length}
use Rattle.model_time.specs.Units.{no_figures_of}
use Rattle.model_time.proofs.clock.no_figures_of.Given as goal

abbrev pub invariant-loop-figures : goal.invariant-loop-figures
invariant-loop-figures l = record {
  none : l.figures.items ≡ no_figures_of (length l.figures.items);
  most : length l.figures.items ≤ length l.loops;
}

abbrev pub decreases-loop-figures : goal.decreases-loop-figures
decreases-loop-figures l = length l.loops - length l.figures.items
