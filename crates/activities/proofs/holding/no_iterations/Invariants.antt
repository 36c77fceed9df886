use Rattle.std.proofs.Common.{◌≡◌, ◌≤◌, ◌-◌, None, map, option_map, replicate, length}
use Rattle.activities.specs.PartsView.{standing_of}
use Rattle.activities.proofs.holding.no_iterations.Given as goal

abbrev pub invariant-loop-places : goal.invariant-loop-places
invariant-loop-places l = record {
  free : map (λ o. option_map standing_of o) l.places.items ≡ replicate (length l.places.items) None;
  most : length l.places.items ≤ l.slots;
}

abbrev pub decreases-loop-places : goal.decreases-loop-places
decreases-loop-places l = l.slots - length l.places.items
