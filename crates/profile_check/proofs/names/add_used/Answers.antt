use Rattle.std.proofs.Common.{◌∙◌, List, ap, map, not, sym}
use Rattle.std.proofs.lemmas.List.{map-append, get_or_default}
use Rattle.ast.specs.View.{letters}
use Rattle.ast.specs.declared.name.Name.{Name}
use Rattle.profile_check.specs.Uses.{is_name}
use Rattle.profile_check.specs.UsesView.{use_of}
use Rattle.profile_check.proofs.Walks.{goes_on_with, goes_on_without}
use Rattle.profile_check.proofs.names.add_used.Goals as goal

pub loop-one-preserved-then-is_call : goal.loop-one-preserved-then-is_call
loop-one-preserved-then-is_call c =
    goes_on_without is_name (λ u. u.name) use_of c.args.used.now c.loop-one.one-index _ (map letters c.loop-one.names.items) _ c.loop-one-test.true (get_or_default _ _ _ _ c.loop-one-test.true)
    (ap not (sym c.is_call.ensures ∙ c.if-is_call.true))
    c.loop-one.invariant

pub loop-one-preserved : goal.loop-one-preserved
loop-one-preserved c =
    goes_on_with is_name (λ u. u.name) use_of c.args.used.now c.loop-one.one-index _ (map letters c.loop-one.names.items) (map letters c.push.new.self.items) _ c.loop-one-test.true (get_or_default _ _ _ _ c.loop-one-test.true)
    (ap not (sym c.is_call.ensures ∙ c.if-is_call.false))
    (ap (λ (names : List Name). map letters names) c.in_ok-push.ensures.items ∙ map-append letters c.loop-one.names.items _)
    c.loop-one.invariant
