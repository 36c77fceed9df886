use Rattle.std.proofs.Common.{◌≡◌, ◌≤◌, drop, length, map}
use Rattle.ast.specs.View.{item as item_of}
use Rattle.expr_code.specs.Emitted.{short}
use Rattle.codegen.specs.Room.{items_room}
use Rattle.codegen.proofs.rooms.of_items.Given as goal

abbrev pub invariant-loop-left : goal.invariant-loop-left
invariant-loop-left l = (l.left ≤ length l.items) × (l.most ≡ short (items_room (map item_of (drop l.left l.items))))

abbrev pub decreases-loop-left : goal.decreases-loop-left
decreases-loop-left l = l.left
