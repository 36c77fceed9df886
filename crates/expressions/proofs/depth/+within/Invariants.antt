use Rattle.std.proofs.Common.{◌≡◌, map, drop, leb}
use Rattle.ast.specs.Tree.{deepest, terms}
use Rattle.ast.specs.View.{term}
use Rattle.expressions.proofs.depth.+within.Given as goal

abbrev pub invariant-are_within-loop-tree : goal.invariant-are_within-loop-tree
invariant-are_within-loop-tree l = leb (deepest (terms (map term (drop l.tree-index l.trees)))) l.room ≡ leb (deepest (terms (map term l.trees))) l.room
