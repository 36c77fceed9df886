use Rattle.std.proofs.Common.{◌≡◌, drop}
use Rattle.std.specs.Prelude.{◌++◌}
use Rattle.engines.specs.Listing.{advance_lines}
use Rattle.engines.proofs.listing.append_advances.Given as goal

abbrev pub invariant-loop-advance : goal.invariant-loop-advance
invariant-loop-advance l = l.out.items ++ advance_lines l.event l.behind (drop l.advance-index l.advanced) ≡ l.fn.out.items ++ advance_lines l.event l.behind l.advanced
