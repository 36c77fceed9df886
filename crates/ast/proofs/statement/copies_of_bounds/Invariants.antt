use Rattle.std.proofs.Common.{◌≡◌, map, take}
use Rattle.ast.specs.View.{bounds}
use Rattle.ast.proofs.statement.copies_of_bounds.Given as goal

abbrev pub invariant-loop-bounds : goal.invariant-loop-bounds
invariant-loop-bounds l = map bounds l.copies.items ≡ map bounds (take l.bounds-index l.given)
