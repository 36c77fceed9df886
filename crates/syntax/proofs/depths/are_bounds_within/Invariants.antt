use Rattle.std.proofs.Common.{◌≡◌, map, drop, leb}
use Rattle.ast.specs.View.{bounds}
use Rattle.syntax.specs.Depths.{greatest, depth_of_bounds}
use Rattle.syntax.proofs.depths.are_bounds_within.Given as goal

abbrev pub invariant-loop-bounds : goal.invariant-loop-bounds
invariant-loop-bounds l = leb (greatest depth_of_bounds (map bounds (drop l.bounds-index l.all))) l.room ≡ leb (greatest depth_of_bounds (map bounds l.all)) l.room
