use Rattle.std.proofs.Common.{◌≡◌, ◌≤◌, ◌-◌, None, replicate, length}
use Rattle.activities.proofs.holding.free_processors.Given as goal

abbrev pub invariant-loop-held : goal.invariant-loop-held
invariant-loop-held l = record {
  free : l.held.items ≡ replicate (length l.held.items) None;
  most : length l.held.items ≤ l.processors;
}

abbrev pub decreases-loop-held : goal.decreases-loop-held
decreases-loop-held l = l.processors - length l.held.items
