use Rattle.std.proofs.Common.{◌≡◌, map, drop, leb}
use Rattle.ast.specs.View.{access}
use Rattle.syntax.specs.Depths.{greatest, depth_of_access}
use Rattle.syntax.proofs.depths.are_elements_within.Given as goal

abbrev pub invariant-loop-element : goal.invariant-loop-element
invariant-loop-element l = leb (greatest depth_of_access (map access (drop l.element-index l.all))) l.room ≡ leb (greatest depth_of_access (map access l.all)) l.room
