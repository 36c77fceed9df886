-- What reports say of the loops that are opened.
use Rattle.std.proofs.Common.{◌≡◌, ◌∙◌, ◌<◌, ◌⊎◌, inl, inr, ℕ, zero, suc, Bool, true, false, List, [], ◌∷◌, ◌++◌, Option, Some, None, length, get_or, map, refl, sym, ap, subst, arith}
use Rattle.std.specs.Prelude.{◌==◌, ◌+◌, if◌then◌else◌}
use Rattle.std.specs.List.{IsDistinct}
use Rattle.std.proofs.lemmas.Option.{same_Some}
use Rattle.ast.specs.Store.{same_name}
use Rattle.dependence.specs.Kept.{EligibleIn, Suits}
use Rattle.dependence.specs.Plan.{PlanTree}
use Rattle.dependence.specs.PlanView.{plan_of}
use Rattle.dependence.specs.declared.plan.LoopPlan.{LoopPlan}
use Rattle.dependence.specs.declared.plan.LoopPlan.TheVariants.{Serial, Body}
use Rattle.dependence.specs.declared.serial.SerialReason.{SerialReason}
use Rattle.loop_tree.specs.Loops.{Loop}
use Rattle.placement.specs.Judged.{IsInside, IsOpened, IsOpenedUnless, IsSerial}
use Rattle.placement.specs.Opening.{NoneSuits}
use Rattle.placement.specs.Placement.{IsPlacedBody, IsPlacement, SomeEligible, loops_around}
use Rattle.placement.proofs.Eligible.{is_outermost}
use Rattle.plan_check.specs.Checks.{HasBody, HasNamesOnce, IsGood}
use Rattle.plan_check.specs.GoodPlan.{GoodPlan, SameBody}
use Rattle.plan_check.proofs.Members.{In}
use Rattle.codegen.specs.OpenedView.{number_of}
use Rattle.codegen.specs.Program.{AreOpenedOf, Planned, number_from}
use Rattle.codegen.specs.Reports.{AreReports, IsPlacedReport, planned_by, planned_in}
use Rattle.codegen.specs.declared.reports.LoopReport.{LoopReport}

-- the numbers of loops, by their variables
pub numbers_are : (n : ℕ) (xs : List Planned) (id : ℕ) → number_of n (map (λ (x : Planned). x.loop.head.variable.id) xs) id ≡ number_from n xs id
numbers_are n [] id = refl
numbers_are n (x ∷ xs) id = ap (λ (o : Option ℕ). if x.loop.head.variable.id == id then Some n else o) (numbers_are (n + 1) xs id)

-- what is known of a loop that is opened
pub record Known (all ls : List Loop) (x : Planned) : Type 0 where
  pub among : In x.loop ls
  pub eligible : EligibleIn x.loop (loops_around all x.loop)
  pub placed : IsPlacedBody x.loop x.plan
  pub good : GoodPlan x.loop x.plan
  pub same : SameBody x.loop x.plan
  pub once : IsDistinct same_name x.plan.privates

some_none : (around : List Loop) → SomeEligible around → NoneSuits around → ⊥
some_none [] s n = s
some_none (m ∷ around) (inl e) n = n.0 ((is_outermost m around).0 e).0
some_none (m ∷ around) (inr s) n = some_none around s n.1

not_none : (p : PlanTree) → Some p ≡ None → ⊥
not_none p e = cc

module _ (all : List Loop) (lines : List ℕ) where
  opened_one : (l : Loop) (ls : List Loop) (r : LoopReport) → IsPlacedReport all lines l r → (p : PlanTree) → plan_of r.plan ≡ Some p → Known all (l ∷ ls) (record { loop = l; plan = p })
  opened_one l ls r w p e = by r.plan w.plan w.good w.body w.once e
    where
      by : (plan : LoopPlan) → IsPlacement all l plan → IsGood l (plan_of plan) → HasBody l (plan_of plan) → HasNamesOnce (plan_of plan) → plan_of plan ≡ Some p → Known all (l ∷ ls) (record { loop = l; plan = p })
      by (Serial reason) i g h o e = absurd (not_none p (sym e))
      by (Body b ps rs) i g h o e =
          let is : i.1.0 ≡ p = same_Some i.1.0 p (sym i.1.1 ∙ e) in
          record { among = inl refl; eligible = i.0; placed = subst (λ (z : PlanTree). IsPlacedBody l z) is i.1.2; good = subst (λ (o : Option PlanTree). IsGood l o) e g; same = subst (λ (o : Option PlanTree). HasBody l o) e h; once = subst (λ (o : Option PlanTree). HasNamesOnce o) e o }

  serial_one : (l : Loop) (r : LoopReport) → IsPlacedReport all lines l r → plan_of r.plan ≡ None → EligibleIn l (loops_around all l) → ⊥
  serial_one l r w e eligible = by w.is_placed
    where
      outermost : Suits l × NoneSuits (loops_around all l)
      outermost = (is_outermost l (loops_around all l)).0 eligible

      opened : IsOpened l w.placed → ⊥
      opened o = let a : plan_of (w.placed).plan ≡ None = ap plan_of (sym (w.reported).plan_is) ∙ e in not_none o.tree (sym o.is ∙ a)

      unless : (b : Bool) → IsInside (loops_around all l) b → IsOpenedUnless b l w.placed → ⊥
      unless true i o = some_none (loops_around all l) i outermost.1
      unless false i o = opened o

      by : (((w.placed).suits ≡ true) × Suits l × IsOpenedUnless w.inside l w.placed) ⊎ (((w.placed).suits ≡ false) × (Suits l → ⊥) × ((r : SerialReason) × IsSerial r w.placed × Rattle.placement.specs.Placement.IsLowest l [] r)) → ⊥
      by (inl a) = unless w.inside w.is_inside a.2
      by (inr a) = a.1 outermost.0

  pub are_opened : (ls : List Loop) (rs : List LoopReport) → AreReports all lines ls rs → AreOpenedOf all ls (planned_in ls rs)
  are_opened [] [] w = refl
  are_opened [] (r ∷ rs) w = absurd w
  are_opened (l ∷ ls) [] w = absurd w
  are_opened (l ∷ ls) (r ∷ rs) w = by (plan_of r.plan) refl (are_opened ls rs w.1)
    where
      by : (o : Option PlanTree) → plan_of r.plan ≡ o → AreOpenedOf all ls (planned_in ls rs) → AreOpenedOf all (l ∷ ls) (planned_by l o ++ planned_in ls rs)
      by None e more = inr ((λ x. serial_one l r w.0 e x), more)
      by (Some p) e more = let k = opened_one l ls r w.0 p e in inl (k.eligible, (p, k.placed, (planned_in ls rs, refl, more)))

  pub as_many : (ls : List Loop) (rs : List LoopReport) → AreReports all lines ls rs → length rs ≡ length ls
  as_many [] [] w = refl
  as_many [] (r ∷ rs) w = absurd w
  as_many (l ∷ ls) [] w = absurd w
  as_many (l ∷ ls) (r ∷ rs) w = ap suc (as_many ls rs w.1)

  wider : (l : Loop) (ls : List Loop) (x : Planned) → Known all ls x → Known all (l ∷ ls) x
  wider l ls x k = record { among = inr k.among; eligible = k.eligible; placed = k.placed; good = k.good; same = k.same; once = k.once }

  pub known_at : (some : Planned) (ls : List Loop) (rs : List LoopReport) → AreReports all lines ls rs → (n : ℕ) → n < length (planned_in ls rs) → Known all ls (get_or (planned_in ls rs) n some)
  known_at some [] rs w n h = absurd (omega (arith, h))
  known_at some (l ∷ ls) [] w n h = absurd (omega (arith, h))
  known_at some (l ∷ ls) (r ∷ rs) w n h = by (plan_of r.plan) refl n h (λ m k. wider l ls (get_or (planned_in ls rs) m some) (known_at some ls rs w.1 m k))
    where
      by : (o : Option PlanTree) → plan_of r.plan ≡ o → (n : ℕ) → n < length (planned_by l o ++ planned_in ls rs) → ((m : ℕ) → m < length (planned_in ls rs) → Known all (l ∷ ls) (get_or (planned_in ls rs) m some))
          → Known all (l ∷ ls) (get_or (planned_by l o ++ planned_in ls rs) n some)
      by None e n h more = more n h
      by (Some p) e zero h more = opened_one l ls r w.0 p e
      by (Some p) e (suc n) h more = more n (omega (arith, h))
