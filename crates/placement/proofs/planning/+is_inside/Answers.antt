use Rattle.std.proofs.Common.{subst, sym}
use Rattle.std.specs.Prelude.{◌-◌}
use Rattle.loop_tree.specs.Loops.{AreWhole}
use Rattle.loop_tree.specs.TreeView.{all_seen, seen}
use Rattle.placement.specs.Judged.{IsInside}
use Rattle.placement.specs.Placement.{around_in}
use Rattle.placement.proofs.Around.{one_more, whole_around}
use Rattle.placement.proofs.planning.+is_inside.Goals as goal

pub returns-in_ok-suits-in-Some : goal.returns-in_ok-suits-in-Some
returns-in_ok-suits-in-Some t c = λ whole.
    let all = all_seen c.args.view.now in
    let l = seen c.args.view.now in
    let outer = c.in-Some.outer in
    let m = seen outer in
    let same = c.in-Some.ensures.tree in
    let found = c.in-Some.ensures.found in
    let none = c.in_ok-is_inside-in-Some.ensures (subst (λ ls. AreWhole ls) (sym same) whole) in
    let at_all = subst (λ ls. IsInside (around_in (c.args.most - 1) ls m) c.in_ok-is_inside-in-Some.field-0) same none in
    let at_false = subst (λ b. IsInside (around_in (c.args.most - 1) all m) b) c.if-branch.false at_all in
    one_more all l m c.args.most c.in_ok-suits-in-Some.field-0 c.if-most-eq0.false (sym found) at_false (c.in_ok-suits-in-Some.ensures (whole_around all l m whole (sym found)))
