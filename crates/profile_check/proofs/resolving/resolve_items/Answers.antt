use Rattle.std.proofs.Common.{◌∙◌, ap, map, ℕ, ◌+◌, ◌++◌, length, take, drop, ◌<◌, arith}
use Rattle.std.proofs.Math.ListN.{set}
use Rattle.ast.specs.View.{item}
use Rattle.profile_check.specs.Resolving as spec
use Rattle.profile_check.specs.ResolvingView.{table_of}
use Rattle.profile_check.proofs.Turns.{count_at, tree_turn, count_turn, rest_turn, bound_turn}
use Rattle.profile_check.proofs.resolving.resolve_items.Goals as goal

pub loop-place-preserved : goal.loop-place-preserved
loop-place-preserved c =
    let xs = c.loop-place.items in
    let i = c.loop-place.place-index in
    let y = c.resolve_item-after.new.item in
    let here : i < length xs = omega (arith, c.loop-place-test.true, c.loop-place.auto.items) in
    let table = table_of c.args.declarations.now in
    record {
      tree = ap (λ (n : ℕ). map item (take (i + 1) (set xs i y)) ++ spec.in_turn (λ m x. spec.item_resolved table m x) spec.item_count n (map item (drop (i + 1) (set xs i y)))) c.resolve_item-after.ensures.after ∙ tree_turn item spec.item_count (λ m x. spec.item_resolved table m x) c.loop-place.after xs i y c.place-item.result here c.resolve_item-after.ensures.tree ∙ c.loop-place.invariant.tree;
      after = omega (arith, c.resolve_item-after.ensures.after, c.loop-place.invariant.after, count_turn item spec.item_count xs i y here);
      rest = rest_turn xs c.args.items.now i y c.loop-place.invariant.rest;
      bound = omega (arith, c.resolve_item-after.ensures.bound, c.loop-place.invariant.bound, bound_turn item spec.item_count xs i y, count_at item spec.item_count xs i c.place-item.result here);
    }
