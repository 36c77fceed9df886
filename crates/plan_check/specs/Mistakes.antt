-- What is wrong with a plan, and which mistake is told.
use Rattle.std.specs.Prelude.{◌≡◌, ◌<◌, ℕ, false, Option, Some, None, ⊤}
use Rattle.dependence.specs.Plan.{PlanTree}
use Rattle.loop_tree.specs.Loops.{Loop}
use Rattle.plan_check.specs.Checking.{IsBody, all_ahead, all_held, all_true}
use Rattle.plan_check.specs.Checking.{cells_of, fits, in_order, never_early}
use Rattle.plan_check.specs.declared.fault.Mistake.{Mistake}
use Rattle.plan_check.specs.declared.fault.Mistake.TheVariants.{Early, Disorder, Behind, Unawaited}
use Rattle.plan_check.specs.declared.fault.Mistake.TheVariants.{Untrue, OtherBody, Unfit}
use Rattle.plan_check.specs.declared.fault.PlanFault.{PlanFault}
use Rattle.plan_check.specs.declared.fault.PlanFault.TheVariants.{Memory, Refused}

-- The number by which a mistake is told.
abbrev pub number_of : Mistake → ℕ
number_of Early = 70
number_of Disorder = 71
number_of Behind = 72
number_of Unawaited = 73
number_of Untrue = 74
number_of OtherBody = 75
number_of Unfit = 76

-- the number of what the check answers; none of want of memory
abbrev pub fault_number : PlanFault → Option ℕ
fault_number Memory = None
fault_number (Refused m) = Some (number_of m)

-- Of several mistakes that of the lowest rank is told.
abbrev pub rank_of : Mistake → ℕ
rank_of Unfit = 0
rank_of OtherBody = 1
rank_of Early = 2
rank_of Disorder = 3
rank_of Behind = 4
rank_of Unawaited = 5
rank_of Untrue = 6

-- The plan, for this loop, has the mistake.
abbrev pub Has : Loop → PlanTree → Mistake → Type 0
Has l p Unfit = fits l p ≡ false
Has l p OtherBody = IsBody (cells_of l) l p → ⊥
Has l p Early = never_early (cells_of l) p ≡ false
Has l p Disorder = in_order (cells_of l) p ≡ false
Has l p Behind = all_ahead (cells_of l) l p ≡ false
Has l p Unawaited = all_held (cells_of l) l p ≡ false
Has l p Untrue = all_true (cells_of l) l p ≡ false

-- The plan has this mistake, and none of a lower rank.
pub record IsFirst (l : Loop) (p : PlanTree) (m : Mistake) : Type 0 where
  pub has : Has l p m
  pub first : (n : Mistake) → rank_of n < rank_of m → Has l p n → ⊥

-- Why a plan is refused, if it is one with a body; a plan without one never is.
abbrev pub Refuses : Loop → Option PlanTree → PlanFault → Type 0
Refuses l None fault = ⊥
Refuses l (Some p) Memory = ⊤
Refuses l (Some p) (Refused m) = IsFirst l p m
