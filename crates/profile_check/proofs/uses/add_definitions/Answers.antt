use Rattle.std.proofs.Common.{map, refl}
use Rattle.ast.specs.View.{definition}
use Rattle.profile_check.specs.Uses as spec
use Rattle.profile_check.specs.UsesView.{use_of}
use Rattle.profile_check.proofs.Walks.{goes_on}
use Rattle.profile_check.proofs.uses.add_definitions.Goals as goal

pub loop-definition-preserved : goal.loop-definition-preserved
loop-definition-preserved c = goes_on (spec.all_uses spec.definition_uses) spec.definition_uses (λ y ys. refl) definition c.args.defined.now c.loop-definition.definition-index c.definition-item.result (map use_of c.loop-definition.uses.items) (map use_of c.add_term.new.uses.items) _ c.loop-definition-test.true c.definition-item.is c.in_ok-add_term.ensures c.loop-definition.invariant
