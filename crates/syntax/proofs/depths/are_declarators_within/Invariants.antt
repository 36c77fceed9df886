use Rattle.std.proofs.Common.{◌≡◌, map, drop, leb}
use Rattle.ast.specs.View.{declarator}
use Rattle.syntax.specs.Depths.{greatest, depth_of_declarator}
use Rattle.syntax.proofs.depths.are_declarators_within.Given as goal

abbrev pub invariant-loop-declarator : goal.invariant-loop-declarator
invariant-loop-declarator l = leb (greatest depth_of_declarator (map declarator (drop l.declarator-index l.all))) l.room ≡ leb (greatest depth_of_declarator (map declarator l.all)) l.room
