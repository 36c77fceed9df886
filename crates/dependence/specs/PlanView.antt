-- The plain plan that a plan stands for.
use Rattle.std.specs.Prelude.{ℕ, List, [], ◌∷◌, map, Option, Some, None}
use Rattle.ast.specs.Tree.{Term}
use Rattle.ast.specs.View.{head, letters, optional_term, plain_statement}
use Rattle.dependence.specs.Plan as plan
use Rattle.dependence.specs.Plan.{PlanNode, PlanBlock, PlanArms, PlanTree, no_nodes}
use Rattle.dependence.specs.Plan.{then_node, no_arms, made_else, then_arm}
use Rattle.dependence.specs.Related.{relations as relations_of}
use Rattle.dependence.specs.declared.plan.LoopPlan.{LoopPlan}
use Rattle.dependence.specs.declared.plan.LoopPlan.TheVariants.{Serial, Body}
use Rattle.dependence.specs.declared.plan.PlanArm.{PlanArm, fold-PlanArm}
use Rattle.dependence.specs.declared.plan.PlanStmt.{PlanStmt, fold-PlanStmt}
use Rattle.dependence.specs.declared.plan.PlanStmt.TheOpen.{PlanStmt-F, PlanArm-F}

-- an arm of an IF: its line, its condition if it is no ELSE, and its body
pub record ArmOf : Type 0 where
  pub line : ℕ
  pub condition : Option Term
  pub body : PlanBlock

-- the block of a list of nodes
abbrev pub block : List PlanNode → PlanBlock
block [] = no_nodes
block (n ∷ ns) = then_node n (block ns)

abbrev pub last_arm : Option (List PlanNode) → PlanArms
last_arm None = no_arms
last_arm (Some ns) = made_else (block ns)

abbrev pub arms : List ArmOf → PlanArms → PlanArms
arms [] last = last
arms (a ∷ more) last = then_arm a.line a.condition a.body (arms more last)

abbrev pub nodes_of : {X : Type 0} → (X → List PlanNode) → Option X → Option (List PlanNode)
nodes_of view None = None
nodes_of view (Some x) = Some (view x)

abbrev pub node_step : PlanStmt-F PlanNode ArmOf → PlanNode
node_step (PlanStmt-F.Await e d) = plan.awaits e d
node_step (PlanStmt-F.Advance e) = plan.advances e
node_step (PlanStmt-F.Plain s) = plan.plain (plain_statement s)
node_step (PlanStmt-F.Loop l h b) = plan.loop l (head h) (block b.items)
node_step (PlanStmt-F.Choice a made) =
    plan.choose (arms a.items (last_arm (nodes_of (λ v. v.items) made)))

abbrev pub arm_step : PlanArm-F PlanNode ArmOf → ArmOf
arm_step a =
    record { line = a.line; condition = optional_term a.condition; body = block a.body.items }

-- a statement of a plan
abbrev pub plan_node : PlanStmt → PlanNode
plan_node = fold-PlanStmt PlanNode ArmOf node_step arm_step

-- an arm of a plan's IF
abbrev pub arm_view : PlanArm → ArmOf
arm_view = fold-PlanArm PlanNode ArmOf node_step arm_step

abbrev pub plan_block : List PlanStmt → PlanBlock
plan_block ns = block (map plan_node ns)

-- the plan with a body, if it is one
abbrev pub plan_of : LoopPlan → Option PlanTree
plan_of (Serial reason) = None
plan_of (Body body privates relations) = Some (record {
  body = plan_block body.items;
  privates = map letters privates.names.items;
  relations = relations_of relations;
})
