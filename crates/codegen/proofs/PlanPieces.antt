-- Parts of plans: what is left of a list of statements or arms, seen as plain data.
use Rattle.std.proofs.Common.{◌≡◌, ◌∙◌, ◌+◌, ◌<◌, ◌≤◌, ℕ, false, List, [], ◌∷◌, length, drop, take, Option, refl, ap, get_or, arith}
use Rattle.std.specs.Prelude.{◌-◌, Vec}
use Rattle.std.specs.Global.{Global}
use Rattle.ast.specs.Tree.{Term}
use Rattle.ast.specs.View.{optional_term}
use Rattle.ast.specs.declared.expression.Expr.{Expr}
use Rattle.ast.proofs.Lists.{item_here, part_left}
use Rattle.dependence.specs.Plan.{PlanNode, awaits, advances, plain, loop, choose, PlanBlock, no_nodes, then_node, then_arm}
use Rattle.dependence.specs.PlanView.{arm_view, plan_block, plan_node}
use Rattle.dependence.specs.declared.plan.PlanArm.{PlanArm}
use Rattle.dependence.specs.declared.plan.PlanStmt.{PlanStmt}
use Rattle.dependence.proofs.PlanArms.{line_of, condition_of, body_of}
use Rattle.codegen.specs.PlanParts.{arms_of, ends_with_stop}
use Rattle.codegen.specs.Process.{is_last_stop}

-- ---- statements

pub statement_here : (ns : List PlanStmt) (i : ℕ) (n : PlanStmt) → i < length ns → n ≡ get_or ns i n → plan_block (drop i ns) ≡ then_node (plan_node n) (plan_block (drop (i + 1) ns))
statement_here ns i n l e = ap (λ (ms : List PlanStmt). plan_block ms) (item_here ns i n l e)

-- the statements from this one on aren't a STOP and the END that follows it
pub plan_goes_on : (ns : List PlanStmt) (i : ℕ) (n : PlanStmt) → i < length ns → n ≡ get_or ns i n → false ≡ ends_with_stop (plan_block (take (length ns - i) (drop i ns))) → false ≡ is_last_stop (plan_node n) (plan_block (drop (i + 1) ns))
plan_goes_on ns i n l e h = h ∙ ap (λ (ms : List PlanStmt). ends_with_stop (plan_block ms)) (part_left ns i ∙ item_here ns i n l e)

-- a STOP and its END are two statements

lone : (n : PlanNode) → false ≡ is_last_stop n no_nodes
lone (awaits e d) = refl
lone (advances e) = refl
lone (plain s) = refl
lone (loop l h b) = refl
lone (choose a) = refl

with_more : (n m o : PlanNode) (b : PlanBlock) → false ≡ is_last_stop n (then_node m (then_node o b))
with_more (plain s) (awaits e d) o b = refl
with_more (plain s) (advances e) o b = refl
with_more (plain s) (plain t) o b = refl
with_more (plain s) (loop l h c) o b = refl
with_more (plain s) (choose a) o b = refl
with_more (awaits e d) m o b = refl
with_more (advances e) m o b = refl
with_more (loop l h c) m o b = refl
with_more (choose a) m o b = refl

pub too_few : (ns : List PlanStmt) → length ns < 2 → false ≡ ends_with_stop (plan_block ns)
too_few [] h = refl
too_few (n ∷ []) h = lone (plan_node n)
too_few (n ∷ m ∷ ns) h = absurd (omega (arith, h))

pub too_many : (ns : List PlanStmt) → 3 ≤ length ns → false ≡ ends_with_stop (plan_block ns)
too_many [] h = absurd (omega (arith, h))
too_many (n ∷ []) h = absurd (omega (arith, h))
too_many (n ∷ m ∷ []) h = absurd (omega (arith, h))
too_many (n ∷ m ∷ o ∷ ns) h = with_more (plan_node n) (plan_node m) (plan_node o) (plan_block ns)

-- ---- an arm's parts

pub plan_arm_here : (xs : List PlanArm) (i : ℕ) (a : PlanArm) (c : Option Expr) (ns : List PlanStmt) (made : Option (Vec PlanStmt Global)) → i < length xs → a ≡ get_or xs i a → a.condition ≡ c → a.body.items ≡ ns
    → arms_of (drop i xs) made ≡ then_arm a.line (optional_term c) (plan_block ns) (arms_of (drop (i + 1) xs) made)
plan_arm_here xs i a c ns made l e f g =
    let others = arms_of (drop (i + 1) xs) made in
    ap (λ (as_list : List PlanArm). arms_of as_list made) (item_here xs i a l e)
    ∙ ap (λ (n : ℕ). then_arm n (arm_view a).condition (arm_view a).body others) (line_of a)
    ∙ ap (λ (o : Option Term). then_arm a.line o (arm_view a).body others) (condition_of a ∙ ap optional_term f)
    ∙ ap (λ (b : PlanBlock). then_arm a.line (optional_term c) b others) (body_of a ∙ ap plan_block g)
