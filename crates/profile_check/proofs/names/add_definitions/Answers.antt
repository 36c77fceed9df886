use Rattle.std.proofs.Common.{◌∙◌, ◌∷◌, [], List, ap, map, refl}
use Rattle.std.proofs.lemmas.List.{map-append}
use Rattle.ast.specs.View.{definition, letters}
use Rattle.ast.specs.declared.name.Name.{Name}
use Rattle.profile_check.specs.Uses.{definition_names}
use Rattle.profile_check.proofs.Walks.{goes_on}
use Rattle.profile_check.proofs.names.add_definitions.Goals as goal

pub loop-definition-preserved : goal.loop-definition-preserved
loop-definition-preserved c =
    let old = c.loop-definition.names.items in
    let x = c.definition-item.result in
    goes_on definition_names (λ d. d.name ∷ []) (λ y ys. refl) definition c.args.defined.now c.loop-definition.definition-index x (map letters old) (map letters c.push.new.self.items) _ c.loop-definition-test.true c.definition-item.is
    (ap (λ (names : List Name). map letters names) c.in_ok-push.ensures.items ∙ map-append letters old (x.name ∷ []))
    c.loop-definition.invariant
