use Rattle.std.proofs.Common.{◌≡◌, map, take}
use Rattle.ast.specs.View.{item}
use Rattle.ast.proofs.statement.copies_of_items.Given as goal

abbrev pub invariant-loop-item : goal.invariant-loop-item
invariant-loop-item l = map item l.copies.items ≡ map item (take l.item-index l.items)
