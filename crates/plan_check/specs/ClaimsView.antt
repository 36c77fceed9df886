-- What is claimed of a pair.
use Rattle.std.specs.Prelude.{◌≡◌, ℕ, true, Option}
use Rattle.dependence.specs.Related.{relations}
use Rattle.dependence.specs.declared.relation.Relation.{Relation}
use Rattle.plan_check.specs.Checking.{claimed}
use Rattle.plan_check.specs.Claiming.{ascend}
use Rattle.plan_check.specs.declared.claims.Claims.{Claims}

abbrev pub claim_in : Claims → ℕ → ℕ → Option Relation
claim_in c a b = claimed (relations c.relations.now) a b

-- claims that are taken as ordered are
abbrev pub IsOrdered : Claims → Type 0
IsOrdered c = c.ordered ≡ true → ascend 0 0 c.relations.now.runs.items ≡ true
