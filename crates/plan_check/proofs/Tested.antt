-- Statements of a plan that are tested one by one.
use Rattle.std.proofs.Common.{◌≡◌, ◌∙◌, ◌+◌, ◌<◌, ◌≤◌, ℕ, Bool, true, false, List, Option, length, map, drop, get_or, ap, refl, sym}
use Rattle.std.specs.Prelude.{◌&&◌}
use Rattle.std.proofs.lemmas.List.{drop_all, drop_more}
use Rattle.std.proofs.Math.Bool.{and-true}
use Rattle.ast.specs.Tree.{Term}
use Rattle.dependence.specs.Plan.{PlanNode, PlanBlock, PlanArms, awaits, advances, plain, loop, choose, no_nodes, then_node, then_arm}
use Rattle.dependence.specs.PlanView.{ArmOf, arm_view, arms, plan_block, plan_node}
use Rattle.dependence.specs.declared.plan.PlanArm.{PlanArm}
use Rattle.dependence.specs.declared.plan.PlanStmt.{PlanStmt}
use Rattle.plan_check.specs.Flow.{no_advance, no_advance_arms, outside, outside_arms}
use Rattle.plan_check.specs.GoodPlan.{made_bare, made_bare_arms}

and_apart : (a b : Bool) → (a && b) ≡ ((a && true) && b)
and_apart true b = refl
and_apart false b = refl

-- a block passes where its first statement and the rest do
pub no_advance_apart : (n : PlanNode) (b : PlanBlock) → no_advance (then_node n b) ≡ (no_advance (then_node n no_nodes) && no_advance b)
no_advance_apart (awaits e d) b = refl
no_advance_apart (advances e) b = refl
no_advance_apart (plain s) b = refl
no_advance_apart (loop l h c) b = and_apart (no_advance c) (no_advance b)
no_advance_apart (choose a) b = and_apart (no_advance_arms a) (no_advance b)

pub outside_apart : (n : PlanNode) (b : PlanBlock) → outside (then_node n b) ≡ (outside (then_node n no_nodes) && outside b)
outside_apart (awaits e d) b = refl
outside_apart (advances e) b = refl
outside_apart (plain s) b = refl
outside_apart (loop l h c) b = and_apart (no_advance c) (outside b)
outside_apart (choose a) b = and_apart (outside_arms a) (outside b)

pub bare_apart : (n : PlanNode) (b : PlanBlock) → made_bare (then_node n b) ≡ (made_bare (then_node n no_nodes) && made_bare b)
bare_apart (awaits e d) b = refl
bare_apart (advances e) b = refl
bare_apart (plain s) b = refl
bare_apart (loop l h c) b = and_apart (made_bare c) (made_bare b)
bare_apart (choose a) b = and_apart (made_bare_arms a) (made_bare b)

module _ (passes : PlanBlock → Bool) where
  -- of the statements that are left, the next
  first_left : ((n : PlanNode) (b : PlanBlock) → passes (then_node n b) ≡ (passes (then_node n no_nodes) && passes b)) → (ns : List PlanStmt) (i : ℕ) (n : PlanStmt) (s : Bool) → i < length ns → n ≡ get_or ns i n → s ≡ passes (then_node (plan_node n) no_nodes)
      → (s && passes (plan_block (drop (i + 1) ns))) ≡ passes (plan_block (drop i ns))
  first_left apart ns i n s h is tested =
      ap (λ (b : Bool). b && passes (plan_block (drop (i + 1) ns))) tested
      ∙ sym (apart (plan_node n) (plan_block (drop (i + 1) ns)))
      ∙ ap (λ (x : PlanStmt). passes (then_node (plan_node x) (plan_block (drop (i + 1) ns)))) is
      ∙ sym (ap (λ (l : List PlanStmt). passes (plan_block l)) (drop_more ns i n h))

  pub next_passes : ((n : PlanNode) (b : PlanBlock) → passes (then_node n b) ≡ (passes (then_node n no_nodes) && passes b)) → (ns : List PlanStmt) (i : ℕ) (n : PlanStmt) (s whole : Bool) → i < length ns → n ≡ get_or ns i n → s ≡ passes (then_node (plan_node n) no_nodes) → s ≡ true
      → passes (plan_block (drop i ns)) ≡ whole → passes (plan_block (drop (i + 1) ns)) ≡ whole
  next_passes apart ns i n s whole h is tested w so_far =
      ap (λ (b : Bool). b && passes (plan_block (drop (i + 1) ns))) (sym w) ∙ first_left apart ns i n s h is tested ∙ so_far

  pub next_fails : ((n : PlanNode) (b : PlanBlock) → passes (then_node n b) ≡ (passes (then_node n no_nodes) && passes b)) → (ns : List PlanStmt) (i : ℕ) (n : PlanStmt) (s whole : Bool) → i < length ns → n ≡ get_or ns i n → s ≡ passes (then_node (plan_node n) no_nodes) → s ≡ false
      → passes (plan_block (drop i ns)) ≡ whole → false ≡ whole
  next_fails apart ns i n s whole h is tested w so_far =
      ap (λ (b : Bool). b && passes (plan_block (drop (i + 1) ns))) (sym w) ∙ first_left apart ns i n s h is tested ∙ so_far

  pub all_pass : (ns : List PlanStmt) (i : ℕ) (whole : Bool) → passes no_nodes ≡ true → length ns ≤ i → passes (plan_block (drop i ns)) ≡ whole → true ≡ whole
  all_pass ns i whole none h so_far = sym none ∙ sym (ap (λ (l : List PlanStmt). passes (plan_block l)) (drop_all i ns h)) ∙ so_far

  -- one statement
  pub node_passes : (n m : PlanNode) (b : Bool) → n ≡ m → b ≡ passes (then_node m no_nodes) → b ≡ passes (then_node n no_nodes)
  node_passes n m b is h = h ∙ ap (λ (x : PlanNode). passes (then_node x no_nodes)) (sym is)

pub alone : (a b : Bool) → a ≡ b → a ≡ (b && true)
alone a b is = is ∙ sym (and-true b)

-- the arms of an IF
module _ (passes : PlanBlock → Bool) (in_arms : PlanArms → Bool) where
  pub arm_passes : ((l : ℕ) (c : Option Term) (b : PlanBlock) (more : PlanArms) → in_arms (then_arm l c b more) ≡ (passes b && in_arms more)) → (line : ℕ) (c : Option Term) (b : PlanBlock) (others all : PlanArms) (whole s : Bool) → all ≡ then_arm line c b others → s ≡ passes b → s ≡ true → whole ≡ in_arms all → whole ≡ in_arms others
  arm_passes apart line c b others all whole s e f g w = w ∙ ap in_arms e ∙ apart line c b others ∙ ap (λ (x : Bool). x && in_arms others) (sym f ∙ g)

  pub arm_fails : ((l : ℕ) (c : Option Term) (b : PlanBlock) (more : PlanArms) → in_arms (then_arm l c b more) ≡ (passes b && in_arms more)) → (line : ℕ) (c : Option Term) (b : PlanBlock) (others all : PlanArms) (whole s : Bool) → all ≡ then_arm line c b others → s ≡ passes b → s ≡ false → whole ≡ in_arms all → whole ≡ false
  arm_fails apart line c b others all whole s e f g w = w ∙ ap in_arms e ∙ apart line c b others ∙ ap (λ (x : Bool). x && in_arms others) (sym f ∙ g)

  pub arms_pass : (xs : List PlanArm) (i : ℕ) (whole : Bool) (last : PlanArms) → length xs ≤ i → whole ≡ in_arms (arms (map arm_view (drop i xs)) last) → whole ≡ in_arms last
  arms_pass xs i whole last h w = w ∙ ap (λ (l : List PlanArm). in_arms (arms (map arm_view l) last)) (drop_all i xs h)

  -- an IF, by its arms and what stands behind them
  pub choice_passes : (cs : List ArmOf) (last : PlanArms) (b s : Bool) → s ≡ true → ((more : PlanArms) → in_arms (arms cs more) ≡ (s && in_arms more)) → b ≡ in_arms last → b ≡ (in_arms (arms cs last) && true)
  choice_passes cs last b s w each h = alone b (in_arms (arms cs last)) (h ∙ sym (each last ∙ ap (λ (x : Bool). x && in_arms last) w))

  pub choice_fails : (cs : List ArmOf) (last : PlanArms) (s : Bool) → s ≡ false → ((more : PlanArms) → in_arms (arms cs more) ≡ (s && in_arms more)) → s ≡ (in_arms (arms cs last) && true)
  choice_fails cs last s w each = alone s (in_arms (arms cs last)) (w ∙ sym (each last ∙ ap (λ (x : Bool). x && in_arms last) w))
