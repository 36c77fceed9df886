use Rattle.std.proofs.Common.{map, refl}
use Rattle.ast.specs.Tree.{terms}
use Rattle.ast.specs.View.{term}
use Rattle.profile_check.specs.Uses as spec
use Rattle.profile_check.specs.UsesView.{use_of}
use Rattle.profile_check.proofs.Walks.{goes_on}
use Rattle.profile_check.proofs.uses.+uses.Goals as goal

pub add_all-loop-expression-preserved : goal.add_all-loop-expression-preserved
add_all-loop-expression-preserved t c = goes_on (λ es. spec.terms_uses (terms es)) spec.term_uses (λ y ys. refl) term c.args.expressions.now c.loop-expression.expression-index c.expression-item.result (map use_of c.loop-expression.uses.items) (map use_of c.add_term.new.uses.items) _ c.loop-expression-test.true c.expression-item.is c.in_ok-add_term.ensures c.loop-expression.invariant
