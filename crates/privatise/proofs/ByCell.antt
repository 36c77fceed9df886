-- What the paths through a part do with the scalar of one cell, by the tree.
use Rattle.std.specs.Prelude.{ℕ, ◌++◌, Some, None}
use Rattle.ast.specs.References.{expressions_references, items_expressions}
use Rattle.ast.specs.Tree.{Kind, assign, print, read, stop, Node, plain, loop, choose, Block, no_nodes, then_node, Arms, no_arms, then_arm}
use Rattle.loop_tree.specs.Paths.{used, term_tokens, target_tokens, targets_tokens, head_tokens}
use Rattle.privatise.specs.Walks.{then_walk, more, walk}
use Rattle.privatise.specs.declared.walk.Walk.{Walk}
use Rattle.privatise.specs.declared.walk.Walk.TheVariants.{Defined, Missed}

abbrev pub kind_walk : ℕ → Kind → Walk
kind_walk c (assign a e) = walk c (term_tokens e ++ target_tokens a)
kind_walk c (print items) = walk c (used (expressions_references (items_expressions items)))
kind_walk c (read elements) = walk c (targets_tokens elements)
kind_walk c stop = Defined
kind_walk c _ = Missed

abbrev mutual
  pub node_walk : ℕ → Node → Walk
  node_walk c (plain s) = kind_walk c s.kind
  node_walk c (loop l h b) = then_walk (walk c (head_tokens h)) (more Missed (block_walk c b))
  node_walk c (choose a) = arms_walk c a

  pub block_walk : ℕ → Block → Walk
  block_walk c no_nodes = Missed
  block_walk c (then_node n b) = then_walk (node_walk c n) (block_walk c b)

  pub arms_walk : ℕ → Arms → Walk
  arms_walk c no_arms = Missed
  arms_walk c (then_arm l None b rest) = block_walk c b
  arms_walk c (then_arm l (Some e) b rest) = then_walk (walk c (term_tokens e)) (more (block_walk c b) (arms_walk c rest))
