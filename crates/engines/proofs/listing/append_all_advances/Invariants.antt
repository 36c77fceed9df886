use Rattle.std.proofs.Common.{◌≡◌, ◌+◌, drop}
use Rattle.std.specs.Prelude.{◌++◌}
use Rattle.engines.specs.Listing.{advances_by_event}
use Rattle.engines.proofs.listing.append_all_advances.Given as goal

abbrev pub invariant-loop-place : goal.invariant-loop-place
invariant-loop-place l = l.out.items ++ advances_by_event (l.place + 1) (drop l.place l.sources) l.advanced ≡ l.fn.out.items ++ advances_by_event 1 l.sources l.advanced
