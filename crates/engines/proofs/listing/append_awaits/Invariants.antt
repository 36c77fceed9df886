use Rattle.std.proofs.Common.{◌≡◌, drop}
use Rattle.std.specs.Prelude.{◌++◌}
use Rattle.engines.specs.Listing.{await_lines}
use Rattle.engines.proofs.listing.append_awaits.Given as goal

abbrev pub invariant-loop-one : goal.invariant-loop-one
invariant-loop-one l = l.out.items ++ await_lines (drop l.one-index l.kept) ≡ l.fn.out.items ++ await_lines l.kept
