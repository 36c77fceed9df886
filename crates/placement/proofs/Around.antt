-- Whether a loop around a loop may be open, one loop further out after another.
use Rattle.std.proofs.Common.{◌≡◌, inl, inr, ℕ, zero, suc, Bool, true, false, List, [], ◌∷◌, Option, Some, None, ◌∙◌, ◌≤◌, refl, ap, arith, subst, sym}
use Rattle.std.specs.Prelude.{◌-◌}
use Rattle.ast.proofs.Numbers.{one_less}
use Rattle.dependence.specs.Kept.{Suits}
use Rattle.dependence.specs.PlanView.{plan_of}
use Rattle.dependence.specs.declared.plan.LoopPlan.{LoopPlan}
use Rattle.dependence.specs.declared.plan.LoopPlan.TheVariants.{Serial, Body}
use Rattle.dependence.specs.Serial.{number_of}
use Rattle.dependence.specs.declared.serial.SerialReason.{SerialReason}
use Rattle.dependence.specs.declared.serial.SerialReason.TheVariants.{NoStep, Reads, SharedVariable, ManySources, Inside, Refused}
use Rattle.loop_tree.specs.Loops.{AreWhole, IsWhole, Loop, loop_around}
use Rattle.loop_tree.specs.Told.{are_told, known}
use Rattle.placement.specs.Judged.{IsInside, IsOpened, IsPlaced, IsSuiting}
use Rattle.placement.specs.Opening.{NoneSuits}
use Rattle.placement.specs.Placement.{IsLowest, IsPlacement, Reason, around_in, loops_around, with_outer}
use Rattle.placement.specs.declared.planning.Placed.{Placed}
use Rattle.placement.proofs.Eligible.{is_outermost}
use Rattle.placement.proofs.Judging.{lowest_inside}

pub whole_around : (all : List Loop) (l m : Loop) → AreWhole all → loop_around all l ≡ Some m → IsWhole m
whole_around all l m whole h = by l.around refl
  where
    by : (a : Option ℕ) → l.around ≡ a → IsWhole m
    by None e = absurd_none (subst (λ x. loop_around all (record l { around = x }) ≡ Some m) e h)
      where
        absurd_none : None ≡ Some m → IsWhole m
        absurd_none q = cc
    by (Some n) e = whole n m (subst (λ x. loop_around all (record l { around = x }) ≡ Some m) e h)

further : (around : List Loop) (m : Loop) (last : Bool) → NoneSuits around → IsSuiting m last → IsInside (m ∷ around) last
further around m true none s = inl ((is_outermost m around).1 (s, none))
further around m false none s = (s, none)

-- none of the loops around the next one suits, and of that it is known
pub one_more : (all : List Loop) (l m : Loop) (most : ℕ) (last : Bool) → (most ≡ 0 → ⊥) → loop_around all l ≡ Some m → NoneSuits (around_in (most - 1) all m) → IsSuiting m last → IsInside (around_in most all l) last
one_more all l m zero last some h none s = absurd (some refl)
one_more all l m (suc n) last some h none s =
    subst (λ x. IsInside (with_outer (λ k. around_in n all k) x) last) (sym h) (further (around_in n all m) m last (subst (λ k. NoneSuits (around_in k all m)) (one_less n) none) s)

-- ---- the plan

at_most_four : (l : Loop) (r : SerialReason) → Reason l [] r → number_of r ≤ 4
at_most_four l NoStep h = omega arith
at_most_four l Reads h = omega arith
at_most_four l SharedVariable h = omega arith
at_most_four l ManySources h = omega arith
at_most_four l Inside h = absurd h
at_most_four l Refused h = absurd h

-- a reason of the loop itself, wherever it stands
own : (l : Loop) (around : List Loop) (r : SerialReason) → Reason l [] r → Reason l around r
own l around NoStep h = h
own l around Reads h = h
own l around SharedVariable h = h
own l around ManySources h = h
own l around Inside h = absurd h
own l around Refused h = h

is_own : (l : Loop) (around : List Loop) (r : SerialReason) → number_of r ≤ 4 → Reason l around r → Reason l [] r
is_own l around NoStep few h = h
is_own l around Reads few h = h
is_own l around SharedVariable few h = h
is_own l around ManySources few h = h
is_own l around Inside few h = absurd (omega (arith, few))
is_own l around Refused few h = h

lowest_own : (l : Loop) (around : List Loop) (r : SerialReason) → IsLowest l [] r → IsLowest l around r
lowest_own l around r h =
    let four = at_most_four l r h.0 in
    (own l around r h.0, λ q less g. h.1 q less (is_own l around q (omega (arith, four, less)) g))

opens : (all : List Loop) (l : Loop) (placed : Placed) (p : LoopPlan) → placed.plan ≡ p → Suits l → NoneSuits (loops_around all l) → IsOpened l placed → IsPlacement all l p
opens all l placed (Serial reason) e s none o = absurd_none (ap plan_of (sym e) ∙ o.is)
  where
    absurd_none : None ≡ Some o.tree → IsPlacement all l (Serial reason)
    absurd_none q = cc
opens all l placed (Body b privates relations) e s none o =
    ((is_outermost l (loops_around all l)).1 (s, none), (o.tree, ap plan_of (sym e) ∙ o.is, o.body))

pub is_placement : (all : List Loop) (l : Loop) (inside : Bool) (placed : Placed) → IsWhole l → are_told (known l) ≡ true → IsInside (loops_around all l) inside → IsPlaced l inside placed → IsPlacement all l placed.plan
is_placement all l true placed whole told some (inl (e, suits, p)) = subst (λ q. IsPlacement all l q) (sym p.plan) (lowest_inside l whole told (loops_around all l) suits some)
is_placement all l false placed whole told none (inl (e, suits, o)) = opens all l placed placed.plan refl suits none o
is_placement all l inside placed whole told around (inr (e, never, (r, p, lowest))) = subst (λ q. IsPlacement all l q) (sym p.plan) (lowest_own l (loops_around all l) r lowest)
