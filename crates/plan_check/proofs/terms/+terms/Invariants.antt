use Rattle.std.proofs.Common.{◌≡◌, map, drop}
use Rattle.ast.specs.Tree.{terms}
use Rattle.ast.specs.View.{letters, term}
use Rattle.plan_check.specs.KnownView.{known as known_of}
use Rattle.plan_check.specs.SeenView.{seen as seen_of}
use Rattle.plan_check.specs.Walking as spec
use Rattle.plan_check.proofs.terms.+terms.Given as goal

abbrev pub invariant-pass_terms-loop-expression : goal.invariant-pass_terms-loop-expression
invariant-pass_terms-loop-expression l =
    spec.seen_terms (map letters l.privates) (terms (map term (drop l.expression-index l.expressions))) (known_of l.known) (seen_of l.seen)
    ≡ spec.seen_terms (map letters l.privates) (terms (map term l.expressions)) (known_of l.known) (seen_of l.fn.seen)
