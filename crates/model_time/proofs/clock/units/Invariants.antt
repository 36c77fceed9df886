use Rattle.std.proofs.Common.{◌+◌, ◌≤◌}
use Rattle.model_time.specs.Records.{AlsoRecords}
use Rattle.model_time.specs.Units.{AreUnits}
use Rattle.model_time.proofs.clock.units.Given as goal

abbrev pub invariant-loop-left : goal.invariant-loop-left
invariant-loop-left l = record {
  units : AreUnits l.fn.run l.fn.totals.program l.fn.totals.loops.items l.run l.totals.program l.totals.loops.items;
  records : AlsoRecords l.fn.kept l.run l.kept;
  most : l.fn.most ≤ l.left + (l.totals.program.steps + l.totals.program.again);
}

abbrev pub decreases-loop-left : goal.decreases-loop-left
decreases-loop-left l = l.left
