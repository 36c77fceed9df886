use Rattle.std.proofs.Common.{◌≡◌, ◌≤◌, drop, length, map}
use Rattle.ast.specs.View.{access as access_of}
use Rattle.expr_code.specs.Emitted.{short}
use Rattle.codegen.specs.Room.{elements_room}
use Rattle.codegen.proofs.rooms.of_elements.Given as goal

abbrev pub invariant-loop-left : goal.invariant-loop-left
invariant-loop-left l = (l.left ≤ length l.elements) × (l.most ≡ short (elements_room (map access_of (drop l.left l.elements))))

abbrev pub decreases-loop-left : goal.decreases-loop-left
decreases-loop-left l = l.left
