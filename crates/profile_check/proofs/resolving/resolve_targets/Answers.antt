use Rattle.std.proofs.Common.{◌∙◌, ap, map, ℕ, ◌+◌, ◌++◌, length, take, drop, ◌<◌, arith}
use Rattle.std.proofs.Math.ListN.{set}
use Rattle.ast.specs.View.{access}
use Rattle.profile_check.specs.Resolving as spec
use Rattle.profile_check.specs.ResolvingView.{table_of}
use Rattle.profile_check.proofs.Turns.{count_at, tree_turn, count_turn, rest_turn, bound_turn}
use Rattle.profile_check.proofs.resolving.resolve_targets.Goals as goal

pub loop-place-preserved : goal.loop-place-preserved
loop-place-preserved c =
    let xs = c.loop-place.targets in
    let i = c.loop-place.place-index in
    let y = c.resolve_target-after.new.target in
    let here : i < length xs = omega (arith, c.loop-place-test.true, c.loop-place.auto.targets) in
    let table = table_of c.args.declarations.now in
    record {
      tree = ap (λ (n : ℕ). map access (take (i + 1) (set xs i y)) ++ spec.in_turn (λ m x. spec.access_resolved table m x) spec.access_count n (map access (drop (i + 1) (set xs i y)))) c.resolve_target-after.ensures.after ∙ tree_turn access spec.access_count (λ m x. spec.access_resolved table m x) c.loop-place.after xs i y c.place-item.result here c.resolve_target-after.ensures.tree ∙ c.loop-place.invariant.tree;
      after = omega (arith, c.resolve_target-after.ensures.after, c.loop-place.invariant.after, count_turn access spec.access_count xs i y here);
      rest = rest_turn xs c.args.targets.now i y c.loop-place.invariant.rest;
      bound = omega (arith, c.resolve_target-after.ensures.bound, c.loop-place.invariant.bound, bound_turn access spec.access_count xs i y, count_at access spec.access_count xs i c.place-item.result here);
    }
