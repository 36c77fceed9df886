use Rattle.std.proofs.Common.{◌≡◌, ◌≤◌, length, map, take, drop}
use Rattle.ast.specs.View.{arm, block_view}
use Rattle.dependence.specs.PlanView.{plan_block}
use Rattle.plan_check.specs.GoodPlan.{stripped}
use Rattle.plan_check.specs.Stripping.{stripped_arm}
use Rattle.plan_check.proofs.bodies.+same.Given as goal

abbrev pub invariant-are_same_one_by_one-loop-i : goal.invariant-are_same_one_by_one-loop-i
invariant-are_same_one_by_one-loop-i l = map stripped_arm (take l.i l.arms) ≡ map arm (take l.i l.others)

abbrev pub invariant-is_same_range-loop-node : goal.invariant-is_same_range-loop-node
invariant-is_same_range-loop-node l = record {
  within : l.place ≤ length l.range;
  forth : stripped (plan_block (drop l.node-index l.nodes)) ≡ block_view (drop l.place l.range) → stripped (plan_block l.nodes) ≡ block_view l.range;
  back : stripped (plan_block l.nodes) ≡ block_view l.range → stripped (plan_block (drop l.node-index l.nodes)) ≡ block_view (drop l.place l.range);
}
