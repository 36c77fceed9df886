use Rattle.std.proofs.Common.{map, refl}
use Rattle.ast.specs.View.{access}
use Rattle.profile_check.specs.Uses as spec
use Rattle.profile_check.specs.UsesView.{use_of}
use Rattle.profile_check.proofs.Walks.{goes_on}
use Rattle.profile_check.proofs.uses.add_elements.Goals as goal

pub loop-element-preserved : goal.loop-element-preserved
loop-element-preserved c = goes_on (spec.all_uses spec.given_uses) spec.given_uses (λ y ys. refl) access c.args.elements.now c.loop-element.element-index c.element-item.result (map use_of c.loop-element.uses.items) (map use_of c.add_access.new.uses.items) _ c.loop-element-test.true c.element-item.is c.in_ok-add_access.ensures c.loop-element.invariant
