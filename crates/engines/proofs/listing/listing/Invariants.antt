use Rattle.std.proofs.Common.{take}
use Rattle.engines.specs.Listing.{Listing}
use Rattle.engines.proofs.listing.listing.Given as goal

abbrev pub invariant-loop-place : goal.invariant-loop-place
invariant-loop-place l = Listing 1 (take l.place l.reports) l.text.items
