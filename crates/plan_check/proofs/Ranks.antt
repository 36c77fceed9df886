-- Of several mistakes the first is told.
use Rattle.std.proofs.Common.{◌≡◌, ◌<◌, true, false, arith, Result, Ok, Err, IfOk}
use Rattle.std.specs.List.{IsDistinct}
use Rattle.ast.specs.Store.{same_name}
use Rattle.dependence.specs.Plan.{PlanTree}
use Rattle.loop_tree.specs.Loops.{Loop}
use Rattle.loop_tree.specs.Told.{are_in_turn, are_told, known, references}
use Rattle.plan_check.specs.Checking.{IsBody, IsChecked, all_ahead, all_held, all_true, cells_of, fits, in_order, never_early}
use Rattle.plan_check.specs.GoodPlan.{GoodPlan}
use Rattle.plan_check.specs.Mistakes.{Has, IsFirst, rank_of}
use Rattle.plan_check.specs.Walked.{IsOrderly}
use Rattle.plan_check.proofs.Once.{names_once}
use Rattle.plan_check.proofs.Sound.{accepted_is_good}
use Rattle.plan_check.specs.declared.fault.Mistake.{Mistake}
use Rattle.plan_check.specs.declared.fault.Mistake.TheVariants.{Early, Disorder, Behind, Unawaited, Untrue, OtherBody, Unfit}

module _ (l : Loop) (p : PlanTree) where
  pub unfit : fits l p ≡ false → IsFirst l p Unfit
  unfit h = record { has = h; first = λ n lt has. none n lt has }
    where
      none : (n : Mistake) → rank_of n < rank_of Unfit → Has l p n → ⊥
      none Unfit lt has = absurd (omega (arith, lt))
      none OtherBody lt has = absurd (omega (arith, lt))
      none Early lt has = absurd (omega (arith, lt))
      none Disorder lt has = absurd (omega (arith, lt))
      none Behind lt has = absurd (omega (arith, lt))
      none Unawaited lt has = absurd (omega (arith, lt))
      none Untrue lt has = absurd (omega (arith, lt))

  pub other_body : fits l p ≡ true → (IsBody (cells_of l) l p → ⊥) → IsFirst l p OtherBody
  other_body fit fails = record { has = fails; first = λ n lt has. none n lt has }
    where
      none : (n : Mistake) → rank_of n < rank_of OtherBody → Has l p n → ⊥
      none Unfit lt has = cc
      none OtherBody lt has = absurd (omega (arith, lt))
      none Early lt has = absurd (omega (arith, lt))
      none Disorder lt has = absurd (omega (arith, lt))
      none Behind lt has = absurd (omega (arith, lt))
      none Unawaited lt has = absurd (omega (arith, lt))
      none Untrue lt has = absurd (omega (arith, lt))

  pub early : fits l p ≡ true → IsBody (cells_of l) l p → never_early (cells_of l) p ≡ false → IsFirst l p Early
  early fit body fails = record { has = fails; first = λ n lt has. none n lt has }
    where
      none : (n : Mistake) → rank_of n < rank_of Early → Has l p n → ⊥
      none Unfit lt has = cc
      none OtherBody lt has = has body
      none Early lt has = absurd (omega (arith, lt))
      none Disorder lt has = absurd (omega (arith, lt))
      none Behind lt has = absurd (omega (arith, lt))
      none Unawaited lt has = absurd (omega (arith, lt))
      none Untrue lt has = absurd (omega (arith, lt))

  pub disorder : fits l p ≡ true → IsBody (cells_of l) l p → never_early (cells_of l) p ≡ true → in_order (cells_of l) p ≡ false → IsFirst l p Disorder
  disorder fit body late fails = record { has = fails; first = λ n lt has. none n lt has }
    where
      none : (n : Mistake) → rank_of n < rank_of Disorder → Has l p n → ⊥
      none Unfit lt has = cc
      none OtherBody lt has = has body
      none Early lt has = cc
      none Disorder lt has = absurd (omega (arith, lt))
      none Behind lt has = absurd (omega (arith, lt))
      none Unawaited lt has = absurd (omega (arith, lt))
      none Untrue lt has = absurd (omega (arith, lt))

  pub behind : IsOrderly l p → all_ahead (cells_of l) l p ≡ false → IsFirst l p Behind
  behind ok fails = record { has = fails; first = λ n lt has. none n lt has }
    where
      none : (n : Mistake) → rank_of n < rank_of Behind → Has l p n → ⊥
      none Unfit lt has = let h = ok.fit in cc
      none OtherBody lt has = has ok.is_body
      none Early lt has = let h = ok.early in cc
      none Disorder lt has = let h = ok.ordered in cc
      none Behind lt has = absurd (omega (arith, lt))
      none Unawaited lt has = absurd (omega (arith, lt))
      none Untrue lt has = absurd (omega (arith, lt))

  pub unawaited : IsOrderly l p → all_ahead (cells_of l) l p ≡ true → all_held (cells_of l) l p ≡ false → IsFirst l p Unawaited
  unawaited ok ahead fails = record { has = fails; first = λ n lt has. none n lt has }
    where
      none : (n : Mistake) → rank_of n < rank_of Unawaited → Has l p n → ⊥
      none Unfit lt has = let h = ok.fit in cc
      none OtherBody lt has = has ok.is_body
      none Early lt has = let h = ok.early in cc
      none Disorder lt has = let h = ok.ordered in cc
      none Behind lt has = cc
      none Unawaited lt has = absurd (omega (arith, lt))
      none Untrue lt has = absurd (omega (arith, lt))

  pub untrue : IsOrderly l p → all_ahead (cells_of l) l p ≡ true → all_held (cells_of l) l p ≡ true → all_true (cells_of l) l p ≡ false → IsFirst l p Untrue
  untrue ok ahead held fails = record { has = fails; first = λ n lt has. none n lt has }
    where
      none : (n : Mistake) → rank_of n < rank_of Untrue → Has l p n → ⊥
      none Unfit lt has = let h = ok.fit in cc
      none OtherBody lt has = has ok.is_body
      none Early lt has = let h = ok.early in cc
      none Disorder lt has = let h = ok.ordered in cc
      none Behind lt has = cc
      none Unawaited lt has = cc
      none Untrue lt has = absurd (omega (arith, lt))

  pub checked : IsOrderly l p → all_ahead (cells_of l) l p ≡ true → all_held (cells_of l) l p ≡ true → all_true (cells_of l) l p ≡ true → IsChecked l p
  checked ok ahead held claims = record {
    fit = ok.fit;
    is_body = ok.is_body;
    early = ok.early;
    ordered = ok.ordered;
    ahead = ahead;
    held = held;
    true_claims = claims;
  }

pub once_if : {X E : Type 0} (l : Loop) (p : PlanTree) (r : Result X E) → IfOk r (λ _. IsChecked l p) → IfOk r (λ _. IsDistinct same_name p.privates)
once_if l p (Ok x) ok = names_once l p ok.fit
once_if l p (Err e) ok = tt

pub good_if : {X E : Type 0} (l : Loop) (p : PlanTree) (r : Result X E) → are_in_turn (references l.references) ≡ true → are_told (known l) ≡ true → IfOk r (λ _. IsChecked l p) → IfOk r (λ _. GoodPlan l p)
good_if l p (Ok x) turn told ok = accepted_is_good (cells_of l) l p turn told ok
good_if l p (Err e) turn told ok = tt
