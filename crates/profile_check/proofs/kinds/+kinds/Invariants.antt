use Rattle.std.proofs.Common.{◌≡◌, map, drop}
use Rattle.ast.specs.Tree.{terms}
use Rattle.ast.specs.View.{term}
use Rattle.profile_check.specs.Kinds.{are_integral}
use Rattle.profile_check.proofs.kinds.+kinds.Given as goal

abbrev pub invariant-are_integral-loop-expression : goal.invariant-are_integral-loop-expression
invariant-are_integral-loop-expression l = are_integral (terms (map term (drop l.expression-index l.expressions))) ≡ are_integral (terms (map term l.expressions))
