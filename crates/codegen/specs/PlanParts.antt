-- An account of the code: parts of plans.
use Rattle.std.specs.Prelude.{Bool, false, List, map, Option, Vec}
use Rattle.std.specs.Global.{Global}
use Rattle.ast.specs.Stops.{is_end_kind, is_stop_kind}
use Rattle.dependence.specs.Plan.{PlanNode, plain, PlanBlock, no_nodes, then_node, PlanArms}
use Rattle.dependence.specs.PlanView.{arm_view, arms, last_arm, nodes_of, plan_node}
use Rattle.dependence.specs.declared.plan.PlanArm.{PlanArm}
use Rattle.dependence.specs.declared.plan.PlanStmt.{PlanStmt}
use Rattle.codegen.specs.Process.{is_last_stop}

-- an ELSE that was made, if any
abbrev pub made_arms : Option (Vec PlanStmt Global) → PlanArms
made_arms made = last_arm (nodes_of (λ body. map plan_node body.items) made)

-- the arms of an IF, and behind them an ELSE that was made, if any
abbrev pub arms_of : List PlanArm → Option (Vec PlanStmt Global) → PlanArms
arms_of as_list made = arms (map arm_view as_list) (made_arms made)

-- ---- a STOP that END follows

abbrev pub is_plan_stop : PlanNode → Bool
is_plan_stop (plain s) = is_stop_kind s.kind
is_plan_stop _ = false

abbrev pub is_plan_end : PlanNode → Bool
is_plan_end (plain s) = is_end_kind s.kind
is_plan_end _ = false

abbrev pub ends_with_stop : PlanBlock → Bool
ends_with_stop no_nodes = false
ends_with_stop (then_node n b) = is_last_stop n b
