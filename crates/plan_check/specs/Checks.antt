-- What the answer of the check says of a plan; of one without a body nothing.
use Rattle.std.specs.Prelude.{Option, Some, None, ⊤}
use Rattle.std.specs.List.{IsDistinct}
use Rattle.ast.specs.Store.{same_name}
use Rattle.dependence.specs.Plan.{PlanTree}
use Rattle.loop_tree.specs.Loops.{Loop}
use Rattle.plan_check.specs.Checking.{IsChecked}
use Rattle.plan_check.specs.GoodPlan.{GoodPlan, SameBody}

-- the check accepts it
abbrev pub Accepted : Loop → Option PlanTree → Type 0
Accepted l None = ⊤
Accepted l (Some p) = IsChecked l p

-- its iterations may be run at once by it
abbrev pub IsGood : Loop → Option PlanTree → Type 0
IsGood l None = ⊤
IsGood l (Some p) = GoodPlan l p

-- no private name of it is given twice
abbrev pub HasNamesOnce : Option PlanTree → Type 0
HasNamesOnce None = ⊤
HasNamesOnce (Some p) = IsDistinct same_name p.privates

-- without what was put in, its body is the loop's range
abbrev pub HasBody : Loop → Option PlanTree → Type 0
HasBody l None = ⊤
HasBody l (Some p) = SameBody l p
