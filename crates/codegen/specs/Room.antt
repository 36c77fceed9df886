-- How much room statements want. What stands behind an ELSE counts as well: a loop there may be
-- opened.
use Rattle.std.specs.Prelude.{ℕ, ◌+◌, max, List, [], ◌∷◌, Option, Some, None}
use Rattle.ast.specs.Tree.{Term, Access, accessed, PrintItem, value_item}
use Rattle.ast.specs.Tree.{text_item, DoHead, Kind, assign, print, read}
use Rattle.dependence.specs.Plan.{PlanNode, plain, loop, choose, PlanBlock, no_nodes}
use Rattle.dependence.specs.Plan.{then_node, PlanArms, no_arms, made_else, then_arm}
use Rattle.expr_code.specs.Computes.{operands}

abbrev pub items_room : List PrintItem → ℕ
items_room [] = 0
items_room (value_item e ∷ items) = max (operands e) (items_room items + 1)
items_room (text_item t ∷ items) = items_room items

abbrev pub elements_room : List Access → ℕ
elements_room [] = 0
elements_room (x ∷ more) = max (operands (accessed x) + 1) (elements_room more)

-- operands of a statement that holds no others
abbrev pub kind_room : Kind → ℕ
kind_room (assign x e) = max (operands e) (operands (accessed x) + 1)
kind_room (print items) = items_room items
kind_room (read elements) = elements_room elements
kind_room _ = 0

abbrev pub step_room : Option Term → ℕ
step_room None = 1
step_room (Some e) = operands e

-- the parameters of a DO; its variable with the step
abbrev pub head_room : DoHead → ℕ
head_room h = max (operands h.first) (max (operands h.last + 1) (step_room h.step + 2))

-- operands of a block, and how many serial loops are under way in it
abbrev mutual
  pub node_room : PlanNode → ℕ
  node_room (plain s) = kind_room s.kind
  node_room (loop line h b) = max (head_room h) (max 2 (block_room b))
  node_room (choose arms) = arms_room arms
  node_room _ = 0

  pub block_room : PlanBlock → ℕ
  block_room no_nodes = 0
  block_room (then_node n b) = max (node_room n) (block_room b)

  pub arms_room : PlanArms → ℕ
  arms_room no_arms = 0
  arms_room (made_else b) = block_room b
  arms_room (then_arm line None b more) = max (block_room b) (arms_room more)
  arms_room (then_arm line (Some c) b more) = max (operands c) (max (block_room b) (arms_room more))

abbrev mutual
  pub node_loops : PlanNode → ℕ
  node_loops (loop line h b) = block_loops b + 1
  node_loops (choose arms) = arms_loops arms
  node_loops _ = 0

  pub block_loops : PlanBlock → ℕ
  block_loops no_nodes = 0
  block_loops (then_node n b) = max (node_loops n) (block_loops b)

  pub arms_loops : PlanArms → ℕ
  arms_loops no_arms = 0
  arms_loops (made_else b) = block_loops b
  arms_loops (then_arm line None b more) = max (block_loops b) (arms_loops more)
  arms_loops (then_arm line (Some c) b more) = max (block_loops b) (arms_loops more)
