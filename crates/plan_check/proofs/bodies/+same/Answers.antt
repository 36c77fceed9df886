use Rattle.std.proofs.Common.{◌≤◌, ◌<◌, arith, length, rules}
use Rattle.ast.specs.View.{arm}
use Rattle.plan_check.specs.Stripping.{stripped_arm}
use Rattle.plan_check.proofs.Alike.{differs, no_choice, no_loop, no_plain, not_event, other_do, other_opening, same_back, same_choice, same_do, same_forth, same_opening, same_plain, skip_back, skip_forth, too_long}
use Rattle.plan_check.proofs.Equal.{all_same, item_differs, item_same, lengths_differ}
use Rattle.plan_check.proofs.Stripped.{arms_law, range_law}
use Rattle.plan_check.proofs.bodies.+same.Goals as goal

pub are_same_one_by_one-returns-then-not-is_same_arm : goal.are_same_one_by_one-returns-then-not-is_same_arm
are_same_one_by_one-returns-then-not-is_same_arm t c =
    let within : c.loop-i.i < length c.args.others.now = search rules in
    item_differs stripped_arm arm c.args.arms.now c.args.others.now c.loop-i.i c.index-arms-i.result c.index-others-i.result c.is_same_arm.result c.loop-i-test.true within c.index-arms-i.is c.index-others-i.is c.if-not-is_same_arm.true c.is_same_arm.ensures

pub are_same_arms-returns : goal.are_same_arms-returns
are_same_arms-returns t c = arms_law c.args.arms.now c.args.others.now c.are_same_one_by_one.result c.are_same_one_by_one.ensures

pub is_same_range-returns : goal.is_same_range-returns
is_same_range-returns t c =
    let ended : length c.args.nodes.now ≤ c.loop-node.node-index = search rules in
    range_law c.args.nodes.now c.args.range.now c.loop-node.node-index c.loop-node.place ended c.loop-node.invariant.within c.loop-node.invariant.forth c.loop-node.invariant.back

pub are_same_one_by_one-returns-then-arms-others : goal.are_same_one_by_one-returns-then-arms-others
are_same_one_by_one-returns-then-arms-others t c = lengths_differ stripped_arm arm c.args.arms.now c.args.others.now c.if-arms-others.true

pub are_same_one_by_one-loop-i-preserved : goal.are_same_one_by_one-loop-i-preserved
are_same_one_by_one-loop-i-preserved t c =
    let within : c.loop-i.i < length c.args.others.now = search rules in
    item_same stripped_arm arm c.args.arms.now c.args.others.now c.loop-i.i c.index-arms-i.result c.index-others-i.result c.is_same_arm.result c.loop-i-test.true within c.index-arms-i.is c.index-others-i.is c.if-not-is_same_arm.false c.is_same_arm.ensures c.loop-i.invariant

pub are_same_one_by_one-returns : goal.are_same_one_by_one-returns
are_same_one_by_one-returns t c = all_same stripped_arm arm c.args.arms.now c.args.others.now c.loop-i.i c.loop-i-test.false c.if-arms-others.false c.loop-i.invariant

pub is_same_range-loop-node-init : goal.is_same_range-loop-node-init
is_same_range-loop-node-init t c = record { within = search rules; forth = λ h. h; back = λ h. h }

pub is_same_range-loop-node-preserved-then-is_event : goal.is_same_range-loop-node-preserved-then-is_event
is_same_range-loop-node-preserved-then-is_event t c = record {
  within = c.loop-node.invariant.within;
  forth = skip_forth c.args.nodes.now c.args.range.now c.loop-node.node-index c.loop-node.place c.node-item.result c.loop-node-test.true c.node-item.is c.is_event.result c.is_event.ensures c.if-is_event.true c.loop-node.invariant.forth;
  back = skip_back c.args.nodes.now c.args.range.now c.loop-node.node-index c.loop-node.place c.node-item.result c.loop-node-test.true c.node-item.is c.is_event.result c.is_event.ensures c.if-is_event.true c.loop-node.invariant.back;
}

pub is_same_range-returns-then-place-range : goal.is_same_range-returns-then-place-range
is_same_range-returns-then-place-range t c =
    too_long c.args.nodes.now c.args.range.now c.loop-node.node-index c.loop-node.place c.node-item.result c.loop-node-test.true c.node-item.is c.is_event.result c.is_event.ensures c.if-is_event.false c.if-place-range.true c.loop-node.invariant.back

pub is_same_range-returns-then-not-is_same_node : goal.is_same_range-returns-then-not-is_same_node
is_same_range-returns-then-not-is_same_node t c =
    differs c.args.nodes.now c.args.range.now c.loop-node.node-index c.loop-node.place c.node-item.result c.loop-node-test.true c.node-item.is c.is_event.result c.is_event.ensures c.index-range-place.result c.if-place-range.false c.index-range-place.is c.is_same_node.result c.is_same_node.ensures c.if-is_event.false c.if-not-is_same_node.true c.loop-node.invariant.back

pub is_same_range-loop-node-preserved : goal.is_same_range-loop-node-preserved
is_same_range-loop-node-preserved t c = record {
  within = let k = c.if-place-range.false in omega (arith, k);
  forth = same_forth c.args.nodes.now c.args.range.now c.loop-node.node-index c.loop-node.place c.node-item.result c.loop-node-test.true c.node-item.is c.is_event.result c.is_event.ensures c.index-range-place.result c.if-place-range.false c.index-range-place.is c.is_same_node.result c.is_same_node.ensures c.if-not-is_same_node.false c.loop-node.invariant.forth;
  back = same_back c.args.nodes.now c.args.range.now c.loop-node.node-index c.loop-node.place c.node-item.result c.loop-node-test.true c.node-item.is c.is_event.result c.is_event.ensures c.index-range-place.result c.if-place-range.false c.index-range-place.is c.is_same_node.result c.is_same_node.ensures c.if-not-is_same_node.false c.loop-node.invariant.back;
}

pub is_same_node-returns-in-Await : goal.is_same_node-returns-in-Await
is_same_node-returns-in-Await t c = not_event _ _ c.in-Await.is

pub is_same_node-returns-in-Await-2 : goal.is_same_node-returns-in-Await-2
is_same_node-returns-in-Await-2 t c = not_event _ _ c.in-Await.is

pub is_same_node-returns-in_default : goal.is_same_node-returns-in_default
is_same_node-returns-in_default t c = no_plain _ _ _ c.in-Plain.is c.in_default.not-Plain

pub is_same_node-returns-in_default-other : goal.is_same_node-returns-in_default-other
is_same_node-returns-in_default-other t c = no_loop _ _ _ _ _ c.in-Loop.is c.in_default-other.not-Loop

pub is_same_node-returns-in_default-other-2 : goal.is_same_node-returns-in_default-other-2
is_same_node-returns-in_default-other-2 t c = no_choice _ _ _ _ c.in-Choice.is c.in_default-other-2.not-Choice

pub is_same_node-returns-in-Plain-other : goal.is_same_node-returns-in-Plain-other
is_same_node-returns-in-Plain-other t c = same_plain _ _ _ _ _ c.in-Plain.is c.in-Plain-other.is c.is_same_statement.ensures

pub is_same_node-returns-in-Choice-other : goal.is_same_node-returns-in-Choice-other
is_same_node-returns-in-Choice-other t c = same_choice _ _ _ _ _ _ _ _ c.in-Choice.is c.deref-in-Choice-other.ensures.value c.in-Choice-other.is c.deref-in-Choice-other-2.ensures.value c.are_same_arms.ensures

pub is_same_node-returns-then-is_same_do : goal.is_same_node-returns-then-is_same_do
is_same_node-returns-then-is_same_do t c = same_do _ _ _ _ _ _ _ _ _ _ _ _ c.in-Loop.is c.deref.ensures.value c.in-Loop-other.is c.deref-then-is_same_do.ensures.value c.if-is_same_do.true c.is_same_do.ensures c.is_same_range.ensures

pub is_same_node-returns-else-is_same_do : goal.is_same_node-returns-else-is_same_do
is_same_node-returns-else-is_same_do t c = other_do _ _ _ _ _ _ _ _ _ c.in-Loop.is c.in-Loop-other.is c.if-is_same_do.false c.is_same_do.ensures

pub is_same_arm-returns-then-is_same_opening : goal.is_same_arm-returns-then-is_same_opening
is_same_arm-returns-then-is_same_opening t c = same_opening c.args.arm.now c.args.other.now _ _ _ _ c.deref.ensures.value c.deref-then-is_same_opening.ensures.value c.if-is_same_opening.true c.is_same_opening.ensures c.is_same_range.ensures

pub is_same_arm-returns-else-is_same_opening : goal.is_same_arm-returns-else-is_same_opening
is_same_arm-returns-else-is_same_opening t c = other_opening c.args.arm.now c.args.other.now _ c.if-is_same_opening.false c.is_same_opening.ensures
