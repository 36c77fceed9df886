-- The check refuses no plan of placement.
use Rattle.std.proofs.Common.{◌≡◌, ◌∙◌, ◌+◌, ◌<◌, ◌≤◌, ℕ, Bool, true, false, List, [], ◌∷◌, Option, Some, refl, sym, subst, arith}
use Rattle.std.specs.Prelude.{◌==◌, ◌||◌, max}
use Rattle.std.proofs.Math.Nat.{le-max_left, le-max_right}
use Rattle.std.proofs.lemmas.Bool.{eqb-true}
use Rattle.ast.specs.Tree.{Ref}
use Rattle.dependence.specs.Plan.{PlanTree}
use Rattle.dependence.specs.PlanView.{plan_of}
use Rattle.dependence.specs.declared.plan.LoopPlan.{LoopPlan}
use Rattle.dependence.specs.declared.plan.LoopPlan.TheVariants.{Serial, Body}
use Rattle.loop_tree.specs.Loops.{IsWhole, Loop, has_cell}
use Rattle.loop_tree.specs.Told.{are_in_turn, are_told, known, references}
use Rattle.placement.specs.Placement.{IsPlacement, loops_around}
use Rattle.placement.proofs.Acceptance.{are_accepted}
use Rattle.plan_check.specs.Checking.{IsChecked, cells_from, cells_of}
use Rattle.plan_check.specs.Mistakes.{Refuses}
use Rattle.plan_check.specs.declared.fault.Mistake.{Mistake}
use Rattle.plan_check.specs.declared.fault.Mistake.TheVariants.{Early, Disorder, Behind, Unawaited, Untrue, OtherBody, Unfit}
use Rattle.plan_check.specs.declared.fault.PlanFault.TheVariants.{Refused}

-- ---- enough cells are looked at

at_least : (n : ℕ) (rs : List Ref) → n ≤ cells_from n rs
at_least n [] = omega arith
at_least n (r ∷ rs) = let k = at_least (max n (r.cell + 1)) rs in let l = le-max_left n (r.cell + 1) in omega (arith, k, l)

below_cells : (n : ℕ) (rs : List Ref) (c : ℕ) → has_cell c rs ≡ true → c < cells_from n rs
below_cells n [] c h = cc
below_cells n (r ∷ rs) c h = by (r.cell == c) refl h (below_cells (max n (r.cell + 1)) rs c)
  where
    by : (b : Bool) → (r.cell == c) ≡ b → (b || has_cell c rs) ≡ true → (has_cell c rs ≡ true → c < cells_from (max n (r.cell + 1)) rs) → c < cells_from (max n (r.cell + 1)) rs
    by true e k more = let z = eqb-true r.cell c e in let l = le-max_right n (r.cell + 1) in let m = at_least (max n (r.cell + 1)) rs in omega (arith, z, l, m)
    by false e k more = more k

-- ---- no mistake

no_mistake : (l : Loop) (p : PlanTree) → IsChecked l p → (m : Mistake) → Refuses l (Some p) (Refused m) → ⊥
no_mistake l p c Unfit w = let a = c.fit in let b = w.has in let z : true ≡ false = sym a ∙ b in cc
no_mistake l p c OtherBody w = w.has c.is_body
no_mistake l p c Early w = let a = c.early in let b = w.has in let z : true ≡ false = sym a ∙ b in cc
no_mistake l p c Disorder w = let a = c.ordered in let b = w.has in let z : true ≡ false = sym a ∙ b in cc
no_mistake l p c Behind w = let a = c.ahead in let b = w.has in let z : true ≡ false = sym a ∙ b in cc
no_mistake l p c Unawaited w = let a = c.held in let b = w.has in let z : true ≡ false = sym a ∙ b in cc
no_mistake l p c Untrue w = let a = c.true_claims in let b = w.has in let z : true ≡ false = sym a ∙ b in cc

pub never_refused : (all : List Loop) (l : Loop) → IsWhole l → are_in_turn (references l.references) ≡ true → are_told (known l) ≡ true → (plan : LoopPlan) → IsPlacement all l plan → (m : Mistake) → Refuses l (plan_of plan) (Refused m) → ⊥
never_refused all l whole turn told (Serial reason) placed m w = w
never_refused all l whole turn told (Body b ps rs) placed m w =
    let p = placed.1.0 in
    let checked : IsChecked l p = are_accepted (cells_of l) l p (loops_around all l) whole turn told (λ c h. below_cells 0 l.assigned c h) placed.0 placed.1.2 in
    no_mistake l p checked m (subst (λ (o : Option PlanTree). Refuses l o (Refused m)) placed.1.1 w)
