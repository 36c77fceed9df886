use Rattle.std.proofs.Common.{◌≡◌, ◌+◌, drop}
use Rattle.std.specs.Prelude.{◌++◌}
use Rattle.engines.specs.Listing.{event_lines}
use Rattle.engines.proofs.listing.append_events.Given as goal

abbrev pub invariant-loop-place : goal.invariant-loop-place
invariant-loop-place l = l.out.items ++ event_lines (l.place + 1) (drop l.place l.sources) ≡ l.fn.out.items ++ event_lines 1 l.sources
