use Rattle.std.proofs.Common.{◌≡◌, map, drop, leb}
use Rattle.ast.specs.View.{definition}
use Rattle.syntax.specs.Depths.{greatest, depth_of_definition}
use Rattle.syntax.proofs.depths.are_definitions_within.Given as goal

abbrev pub invariant-loop-definition : goal.invariant-loop-definition
invariant-loop-definition l = leb (greatest depth_of_definition (map definition (drop l.definition-index l.all))) l.room ≡ leb (greatest depth_of_definition (map definition l.all)) l.room
