-- The parts of an arm of a plan, seen as a tree.
use Rattle.std.proofs.Common.{◌≡◌, ◌∙◌, ap, rules}
use Rattle.ast.specs.View.{optional_term}
use Rattle.dependence.specs.Plan.{PlanNode}
use Rattle.dependence.specs.PlanView.{ArmOf, arm_step, arm_view, node_step, plan_block}
use Rattle.dependence.specs.declared.plan.PlanArm.{PlanArm, fold_out-PlanArm}

pub line_of : (a : PlanArm) → (arm_view a).line ≡ a.line
line_of a = ap (λ (b : ArmOf). b.line) (fold_out-PlanArm PlanNode ArmOf node_step arm_step a) ∙ search rules

pub condition_of : (a : PlanArm) → (arm_view a).condition ≡ optional_term a.condition
condition_of a = ap (λ (b : ArmOf). b.condition) (fold_out-PlanArm PlanNode ArmOf node_step arm_step a) ∙ search rules

pub body_of : (a : PlanArm) → (arm_view a).body ≡ plan_block a.body.items
body_of a = ap (λ (b : ArmOf). b.body) (fold_out-PlanArm PlanNode ArmOf node_step arm_step a) ∙ search rules
