use Rattle.std.proofs.Common.{subst}
use Rattle.loop_tree.specs.TreeView.{all_seen, seen}
use Rattle.placement.specs.Judged.{IsInside}
use Rattle.placement.specs.Placement.{around_in}
use Rattle.placement.proofs.Around.{is_placement}
use Rattle.placement.proofs.planning.plan.Goals as goal

pub returns : goal.returns
returns c = λ all_whole whole.
    let all = all_seen c.args.view.now in
    let l = seen c.args.view.now in
    let inside = subst (λ n. IsInside (around_in n all l) c.in_ok-inside.inside) c.count.ensures (c.in_ok-inside.ensures all_whole) in
    is_placement all l c.in_ok-inside.inside c.in_ok-place.field-0 whole c.args.view.now.told inside (c.in_ok-place.ensures whole)
