-- An account of the code: whether there is a READ in a range, and whether the variables of the
-- loops inside are among names.
use Rattle.std.specs.Prelude.{Bool, true, false, ◌&&◌, ◌||◌, ℕ, List}
use Rattle.ast.specs.Tree.{Node, plain, loop, choose, Block, no_nodes}
use Rattle.ast.specs.Tree.{then_node, Arms, no_arms, then_arm}
use Rattle.dependence.specs.Hiding.{has_name}
use Rattle.dependence.specs.Kept.{is_read}

abbrev mutual
  pub node_reads : Node → Bool
  node_reads (plain s) = is_read s.kind
  node_reads (loop l h b) = reads b
  node_reads (choose a) = arms_read a

  pub reads : Block → Bool
  reads no_nodes = false
  reads (then_node n b) = node_reads n || reads b

  pub arms_read : Arms → Bool
  arms_read no_arms = false
  arms_read (then_arm l c b more) = reads b || arms_read more

module _ (names : List (List ℕ)) where
  abbrev mutual
    pub node_hides : Node → Bool
    node_hides (plain s) = true
    node_hides (loop l h b) = has_name names h.variable.name && hide_inner b
    node_hides (choose a) = arms_hide a

    pub hide_inner : Block → Bool
    hide_inner no_nodes = true
    hide_inner (then_node n b) = node_hides n && hide_inner b

    pub arms_hide : Arms → Bool
    arms_hide no_arms = true
    arms_hide (then_arm l c b more) = hide_inner b && arms_hide more
