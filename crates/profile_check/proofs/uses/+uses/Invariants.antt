use Rattle.std.proofs.Common.{◌≡◌, ◌++◌, map, drop}
use Rattle.ast.specs.Tree.{terms}
use Rattle.ast.specs.View.{term}
use Rattle.profile_check.specs.Uses as spec
use Rattle.profile_check.specs.UsesView.{use_of}
use Rattle.profile_check.proofs.uses.+uses.Given as goal

abbrev pub invariant-add_all-loop-expression : goal.invariant-add_all-loop-expression
invariant-add_all-loop-expression l =
    map use_of l.uses.items ++ spec.terms_uses (terms (map term (drop l.expression-index l.expressions)))
    ≡ map use_of l.fn.uses.items ++ spec.terms_uses (terms (map term l.expressions))
