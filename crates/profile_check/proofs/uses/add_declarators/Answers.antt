use Rattle.std.proofs.Common.{◌∙◌, ◌++◌, List, ap, map, refl}
use Rattle.ast.specs.View.{bounds, declarator}
use Rattle.ast.specs.declared.statement.Bounds.{Bounds}
use Rattle.profile_check.specs.Uses as spec
use Rattle.profile_check.specs.UsesView.{use_of}
use Rattle.profile_check.proofs.Walks.{goes_on}
use Rattle.profile_check.proofs.uses.add_declarators.Goals as goal

pub loop-declarator-preserved : goal.loop-declarator-preserved
loop-declarator-preserved c =
    let old = map use_of c.loop-declarator.uses.items in
    goes_on (spec.all_uses spec.declarator_uses) spec.declarator_uses (λ y ys. refl) declarator c.args.declared.now c.loop-declarator.declarator-index c.declarator-item.result old (map use_of c.add_bounds.new.uses.items) _ c.loop-declarator-test.true c.declarator-item.is
    (c.in_ok-add_bounds.ensures ∙ ap (λ (bs : List Bounds). old ++ spec.all_uses spec.bounds_uses (map bounds bs)) c.deref.ensures.value)
    c.loop-declarator.invariant
