use Rattle.std.proofs.Common.{◌∙◌, ◌∷◌, [], List, ap, map, refl}
use Rattle.std.proofs.lemmas.List.{map-append}
use Rattle.ast.specs.View.{declarator, letters}
use Rattle.ast.specs.declared.name.Name.{Name}
use Rattle.profile_check.specs.Uses.{declarator_names}
use Rattle.profile_check.proofs.Walks.{goes_on}
use Rattle.profile_check.proofs.names.add_declarators.Goals as goal

pub loop-declarator-preserved : goal.loop-declarator-preserved
loop-declarator-preserved c =
    let old = c.loop-declarator.names.items in
    let x = c.declarator-item.result in
    goes_on declarator_names (λ d. d.name ∷ []) (λ y ys. refl) declarator c.args.declared.now c.loop-declarator.declarator-index x (map letters old) (map letters c.push.new.self.items) _ c.loop-declarator-test.true c.declarator-item.is
    (ap (λ (names : List Name). map letters names) c.in_ok-push.ensures.items ∙ map-append letters old (x.name ∷ []))
    c.loop-declarator.invariant
