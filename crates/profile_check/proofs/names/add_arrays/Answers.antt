use Rattle.std.proofs.Common.{◌∙◌, ◌∷◌, [], List, ap, map, sym}
use Rattle.std.proofs.lemmas.List.{map-append}
use Rattle.ast.specs.View.{declarator, letters}
use Rattle.ast.specs.declared.name.Name.{Name}
use Rattle.profile_check.specs.Uses.{has_bounds}
use Rattle.profile_check.proofs.Walks.{goes_on_with, goes_on_without}
use Rattle.profile_check.proofs.names.add_arrays.Goals as goal

pub loop-declarator-preserved-then-not-has_bounds : goal.loop-declarator-preserved-then-not-has_bounds
loop-declarator-preserved-then-not-has_bounds c =
    goes_on_without has_bounds (λ d. d.name) declarator c.args.declared.now c.loop-declarator.declarator-index c.declarator-item.result (map letters c.loop-declarator.names.items) _ c.loop-declarator-test.true c.declarator-item.is
    (sym c.has_bounds.ensures ∙ c.if-not-has_bounds.true)
    c.loop-declarator.invariant

pub loop-declarator-preserved : goal.loop-declarator-preserved
loop-declarator-preserved c =
    let old = c.loop-declarator.names.items in
    let x = c.declarator-item.result in
    goes_on_with has_bounds (λ d. d.name) declarator c.args.declared.now c.loop-declarator.declarator-index x (map letters old) (map letters c.push.new.self.items) _ c.loop-declarator-test.true c.declarator-item.is
    (sym c.has_bounds.ensures ∙ c.if-not-has_bounds.false)
    (ap (λ (names : List Name). map letters names) c.in_ok-push.ensures.items ∙ map-append letters old (x.name ∷ []))
    c.loop-declarator.invariant
