use Rattle.std.proofs.Common.{◌≡◌, ◌≤◌, ◌-◌, replicate, length}
use Rattle.pictures.specs.Runs.{nothing}
use Rattle.pictures.proofs.gathering.no_lanes.Given as goal

abbrev pub invariant-loop-lanes : goal.invariant-loop-lanes
invariant-loop-lanes l = record {
  free : l.lanes.items ≡ replicate (length l.lanes.items) nothing;
  most : length l.lanes.items ≤ l.processors;
}

abbrev pub decreases-loop-lanes : goal.decreases-loop-lanes
decreases-loop-lanes l = l.processors - length l.lanes.items
