-- A program as a plan that awaits and advances nothing.
use Rattle.ast.specs.Tree as tree
use Rattle.ast.specs.Tree.{Node, Block, Arms}
use Rattle.dependence.specs.Plan as plan
use Rattle.dependence.specs.Plan.{PlanNode, PlanBlock, PlanArms}

abbrev mutual
  pub plain_node : Node → PlanNode
  plain_node (tree.plain s) = plan.plain s
  plain_node (tree.loop line h b) = plan.loop line h (plain_block b)
  plain_node (tree.choose a) = plan.choose (plain_arms a)

  pub plain_block : Block → PlanBlock
  plain_block tree.no_nodes = plan.no_nodes
  plain_block (tree.then_node n b) = plan.then_node (plain_node n) (plain_block b)

  pub plain_arms : Arms → PlanArms
  plain_arms tree.no_arms = plan.no_arms
  plain_arms (tree.then_arm line c b more) = plan.then_arm line c (plain_block b) (plain_arms more)
