use Rattle.std.proofs.Common.{◌≡◌, drop, map}
use Rattle.ast.specs.Tree.{terms}
use Rattle.ast.specs.View.{term}
use Rattle.privatise.specs.Flow.{after_terms}
use Rattle.privatise.proofs.passing.+terms.Given as goal

abbrev pub invariant-pass_terms-loop-expression : goal.invariant-pass_terms-loop-expression
invariant-pass_terms-loop-expression l =
    after_terms (terms (map term (drop l.expression-index l.expressions))) l.walks ≡ after_terms (terms (map term l.expressions)) l.fn.walks
