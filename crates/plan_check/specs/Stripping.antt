-- How a plan's body is compared with a range, node by node.
use Rattle.std.specs.Prelude.{◌≡◌}
use Rattle.ast.specs.Tree as tree
use Rattle.dependence.specs.Plan.{PlanNode, no_nodes, then_node}
use Rattle.dependence.specs.declared.plan.PlanArm.{PlanArm}
use Rattle.dependence.specs.PlanView.{arm_view}
use Rattle.plan_check.specs.GoodPlan.{stripped}

-- a node of the plan that is neither an await nor an advance, and is this one of the range
abbrev pub IsNode : PlanNode → tree.Node → Type 0
IsNode n m = stripped (then_node n no_nodes) ≡ tree.then_node m tree.no_nodes

abbrev pub stripped_arm : PlanArm → tree.Arm
stripped_arm a = record {
  line = (arm_view a).line;
  condition = (arm_view a).condition;
  body = stripped (arm_view a).body;
}
