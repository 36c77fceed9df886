-- Arms are passed one by one: what is known and seen behind each.
use Rattle.std.proofs.Common.{◌≡◌, ◌∙◌, ◌+◌, ◌<◌, ℕ, Bool, true, List, ◌∷◌, length, drop, map, Option, sym, ap, get_or}
use Rattle.std.proofs.lemmas.List.{drop_more}
use Rattle.ast.specs.Tree.{Term}
use Rattle.ast.specs.View.{optional_term}
use Rattle.ast.specs.declared.expression.Expr.{Expr}
use Rattle.dependence.specs.Plan.{PlanBlock, PlanArms, then_arm}
use Rattle.dependence.specs.PlanView.{arm_view, arms, plan_block}
use Rattle.dependence.specs.declared.plan.PlanArm.{PlanArm}
use Rattle.dependence.specs.declared.plan.PlanStmt.{PlanStmt}
use Rattle.dependence.proofs.PlanArms.{line_of, condition_of, body_of}
use Rattle.std.specs.Prelude.{◌&&◌}
use Rattle.plan_check.specs.Flow.{Known, joined}
use Rattle.plan_check.specs.GoodPlan.{made_bare, made_bare_arms}
use Rattle.plan_check.specs.Walking.{Seen, behind, known_arms, known_block, seen_arms, seen_block, seen_optional}

-- an arm is the first of those that are left
pub arm_here : (xs : List PlanArm) (i : ℕ) (a : PlanArm) (c : Option Expr) (ns : List PlanStmt) → i < length xs → a ≡ get_or xs i a → a.condition ≡ c → a.body.items ≡ ns → (last : PlanArms)
    → arms (map arm_view (drop i xs)) last ≡ then_arm a.line (optional_term c) (plan_block ns) (arms (map arm_view (drop (i + 1) xs)) last)
arm_here xs i a c ns l e f g last =
    let others = arms (map arm_view (drop (i + 1) xs)) last in
    ap (λ (as_list : List PlanArm). arms (map arm_view as_list) last) (drop_more xs i a l ∙ ap (λ y. y ∷ drop (i + 1) xs) (sym e))
    ∙ ap (λ (n : ℕ). then_arm n (arm_view a).condition (arm_view a).body others) (line_of a)
    ∙ ap (λ (o : Option Term). then_arm a.line o (arm_view a).body others) (condition_of a ∙ ap optional_term f)
    ∙ ap (λ (b : PlanBlock). then_arm a.line (optional_term c) b others) (body_of a ∙ ap plan_block g)

module _ (privates : List (List ℕ)) where
  pub arm_seen : (line : ℕ) (c : Option Term) (b : PlanBlock) (others all : PlanArms) (k inner next : Known) (s tested passed target : Seen) → all ≡ then_arm line c b others → tested ≡ seen_optional privates c k s → inner ≡ k → passed ≡ seen_block privates b inner tested → next ≡ behind privates c k
      → target ≡ seen_arms privates all k s → target ≡ seen_arms privates others next passed
  arm_seen line c b others all k inner next s tested passed target e f g h i w =
      w ∙ ap (λ (x : PlanArms). seen_arms privates x k s) e
      ∙ ap (λ (x : Seen). seen_arms privates others (behind privates c k) (seen_block privates b k x)) (sym f)
      ∙ ap (λ (x : Known). seen_arms privates others (behind privates c k) (seen_block privates b x tested)) (sym g)
      ∙ ap (λ (x : Seen). seen_arms privates others (behind privates c k) x) (sym h)
      ∙ ap (λ (x : Known). seen_arms privates others x passed) (sym i)

  pub arm_known : (line : ℕ) (c : Option Term) (b : PlanBlock) (others all : PlanArms) (k inner left next ended both target : Known) → all ≡ then_arm line c b others → inner ≡ k → left ≡ known_block privates b inner → both ≡ joined ended left → next ≡ behind privates c k
      → target ≡ known_arms privates all ended k → target ≡ known_arms privates others both next
  arm_known line c b others all k inner left next ended both target e f g h i w =
      w ∙ ap (λ (x : PlanArms). known_arms privates x ended k) e
      ∙ ap (λ (x : Known). known_arms privates others (joined ended (known_block privates b x)) (behind privates c k)) (sym f)
      ∙ ap (λ (x : Known). known_arms privates others (joined ended x) (behind privates c k)) (sym g)
      ∙ ap (λ (x : Known). known_arms privates others x (behind privates c k)) (sym h)
      ∙ ap (λ (x : Known). known_arms privates others both x) (sym i)

pub arm_bare : (line : ℕ) (c : Option Term) (b : PlanBlock) (others all : PlanArms) (whole is_bare : Bool) → all ≡ then_arm line c b others → is_bare ≡ made_bare b → is_bare ≡ true → whole ≡ made_bare_arms all → whole ≡ made_bare_arms others
arm_bare line c b others all whole is_bare e f g w = w ∙ ap made_bare_arms e ∙ ap (λ (x : Bool). x && made_bare_arms others) (sym f ∙ g)
