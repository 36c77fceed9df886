use Rattle.std.proofs.Common.{◌≡◌, map, drop, leb}
use Rattle.ast.specs.View.{item}
use Rattle.syntax.specs.Depths.{greatest, depth_of_item}
use Rattle.syntax.proofs.depths.are_items_within.Given as goal

abbrev pub invariant-loop-item : goal.invariant-loop-item
invariant-loop-item l = leb (greatest depth_of_item (map item (drop l.item-index l.all))) l.room ≡ leb (greatest depth_of_item (map item l.all)) l.room
