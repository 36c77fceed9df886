use Rattle.std.proofs.Common.{◌≡◌, drop, map}
use Rattle.std.specs.Prelude.{◌++◌}
use Rattle.ast.specs.View.{letters}
use Rattle.engines.specs.Listing.{name_words}
use Rattle.engines.proofs.listing.append_names.Given as goal

abbrev pub invariant-loop-name : goal.invariant-loop-name
invariant-loop-name l = l.out.items ++ name_words (map letters (drop l.name-index l.names)) ≡ l.fn.out.items ++ name_words (map letters l.names)
