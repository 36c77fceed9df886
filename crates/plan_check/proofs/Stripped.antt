-- A plan's body and a range.
use Rattle.std.proofs.Common.{◌≡◌, ◌∙◌, ◌≤◌, ◌==◌, Bool, List, [], ◌∷◌, length, drop, map, Option, Some, None, refl, sym, ap, ℕ, zero, suc, arith}
use Rattle.std.proofs.lemmas.Bool.Decides.{Decides-eqb}
use Rattle.ast.specs.Tree as tree
use Rattle.ast.specs.View.{arm as arm_of, block_view}
use Rattle.ast.specs.Tree.{Term}
use Rattle.ast.specs.declared.tree.Arm.{Arm}
use Rattle.ast.specs.declared.tree.Node.{Node}
use Rattle.dependence.specs.Plan.{PlanNode}
use Rattle.std.specs.Bool.{Decides}
use Rattle.dependence.specs.PlanView.{arm_view, arms, last_arm, plan_block}
use Rattle.dependence.specs.declared.plan.PlanArm.{PlanArm}
use Rattle.dependence.specs.declared.plan.PlanStmt.{PlanStmt}
use Rattle.plan_check.specs.GoodPlan.{stripped, stripped_arms}
use Rattle.plan_check.specs.Stripping.{stripped_arm}

-- at the end of the nodes, the range is one where it has ended too
ended : (place : ℕ) (range : List Node) → place ≡ length range → tree.no_nodes ≡ block_view (drop place range)
ended zero [] h = refl
ended zero (n ∷ ns) h = absurd (omega (arith, h))
ended (suc k) [] h = absurd (omega (arith, h))
ended (suc k) (n ∷ ns) h = ended k ns (omega (arith, h))

has_ended : (place : ℕ) (range : List Node) → place ≤ length range → tree.no_nodes ≡ block_view (drop place range) → place ≡ length range
has_ended zero [] h e = refl
has_ended zero (n ∷ ns) h e = cc
has_ended (suc k) [] h e = absurd (omega (arith, h))
has_ended (suc k) (n ∷ ns) h e = let q = has_ended k ns (omega (arith, h)) e in omega (arith, q)

range_end : (place : ℕ) (range : List Node) → place ≤ length range → Decides (place == length range) (tree.no_nodes ≡ block_view (drop place range))
range_end place range h = let d = Decides-eqb place (length range) in ((λ e. ended place range (d.0 e)), (λ e. d.1 (has_ended place range h e)))

none_left : (ns : List PlanStmt) (i : ℕ) → length ns ≤ i → drop i ns ≡ []
none_left [] zero h = refl
none_left [] (suc i) h = refl
none_left (n ∷ ns) zero h = absurd (omega (arith, h))
none_left (n ∷ ns) (suc i) h = none_left ns i (omega (arith, h))

-- and what is left of both tells of the whole
pub range_law : (ns : List PlanStmt) (range : List Node) (i place : ℕ) → length ns ≤ i → place ≤ length range
    → (stripped (plan_block (drop i ns)) ≡ block_view (drop place range) → stripped (plan_block ns) ≡ block_view range)
    → (stripped (plan_block ns) ≡ block_view range → stripped (plan_block (drop i ns)) ≡ block_view (drop place range))
    → Decides (place == length range) (stripped (plan_block ns) ≡ block_view range)
range_law ns range i place l w forth back = (
  (λ h. forth (empty ∙ d.0 h)),
  (λ h. d.1 (sym empty ∙ back h)),
)
  where
    d : Decides (place == length range) (tree.no_nodes ≡ block_view (drop place range))
    d = range_end place range w

    empty : stripped (plan_block (drop i ns)) ≡ tree.no_nodes
    empty = ap (λ (z : List PlanStmt). stripped (plan_block z)) (none_left ns i l)

-- ---- arms

last_stripped : (made : Option (List PlanNode)) → stripped_arms (last_arm made) ≡ tree.no_arms
last_stripped None = refl
last_stripped (Some ns) = refl

arms_stripped : (cs : List PlanArm) (made : Option (List PlanNode)) → stripped_arms (arms (map arm_view cs) (last_arm made)) ≡ tree.arms (map stripped_arm cs)
arms_stripped [] made = last_stripped made
arms_stripped (a ∷ cs) made = ap (λ (x : tree.Arms). tree.then_arm (arm_view a).line (arm_view a).condition (stripped (arm_view a).body) x) (arms_stripped cs made)

arm_made : (a b : tree.Arm) → a.line ≡ b.line → a.condition ≡ b.condition → a.body ≡ b.body → a ≡ b
arm_made a b l c d = built a.line b.line a.condition b.condition a.body b.body l c d
  where
    built : (k l : ℕ) (c d : Option Term) (x y : tree.Block) → k ≡ l → c ≡ d → x ≡ y → ◌≡◌ {A = tree.Arm} (record { line = k; condition = c; body = x }) (record { line = l; condition = d; body = y })
    built k l c d x y e f g = cc

one_list : (xs ys : List tree.Arm) → tree.arms xs ≡ tree.arms ys → xs ≡ ys
one_list [] [] h = refl
one_list [] (y ∷ ys) h = cc
one_list (x ∷ xs) [] h = cc
one_list (x ∷ xs) (y ∷ ys) h =
    let l : x.line ≡ y.line = cc in
    let c : x.condition ≡ y.condition = cc in
    let b : x.body ≡ y.body = cc in
    let more : tree.arms xs ≡ tree.arms ys = cc in
    let q = one_list xs ys more in
    let p = arm_made x y l c b in
    ap (λ (z : tree.Arm). z ∷ xs) p ∙ ap (λ (zs : List tree.Arm). y ∷ zs) q

-- the arms of an IF are these where they are one by one
pub arms_law : (cs : List PlanArm) (bs : List Arm) (b : Bool) → Decides b (map stripped_arm cs ≡ map arm_of bs) → (made : Option (List PlanNode)) → Decides b (stripped_arms (arms (map arm_view cs) (last_arm made)) ≡ tree.arms (map arm_of bs))
arms_law cs bs b d made = (
  (λ h. arms_stripped cs made ∙ ap tree.arms (d.0 h)),
  (λ h. d.1 (one_list (map stripped_arm cs) (map arm_of bs) (sym (arms_stripped cs made) ∙ h))),
)
