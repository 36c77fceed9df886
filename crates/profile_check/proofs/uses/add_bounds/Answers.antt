use Rattle.std.proofs.Common.{map, refl}
use Rattle.ast.specs.View.{bounds, optional_term, term}
use Rattle.profile_check.specs.Uses as spec
use Rattle.profile_check.specs.UsesView.{use_of}
use Rattle.profile_check.proofs.Walks.{behind, goes_on}
use Rattle.profile_check.proofs.uses.add_bounds.Goals as goal

pub loop-dimension-preserved : goal.loop-dimension-preserved
loop-dimension-preserved c =
    let b = c.dimension-item.result in
    let old = map use_of c.loop-dimension.uses.items in
    let mid = map use_of c.add_optional.new.uses.items in
    let new = map use_of c.add_term.new.uses.items in
    goes_on (spec.all_uses spec.bounds_uses) spec.bounds_uses (λ y ys. refl) bounds c.args.bounds.now c.loop-dimension.dimension-index b old new _ c.loop-dimension-test.true c.dimension-item.is
    (behind old mid new (spec.optional_uses (optional_term b.lower)) (spec.term_uses (term b.upper)) c.in_ok-add_optional.ensures c.in_ok-add_term.ensures)
    c.loop-dimension.invariant
