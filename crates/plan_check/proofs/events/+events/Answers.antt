use Rattle.std.proofs.Common.{◌≡◌, ◌+◌, drop, map, refl, rules}
use Rattle.ast.specs.View.{optional_term}
use Rattle.ast.proofs.Calls.{no_answer}
use Rattle.dependence.specs.Plan.{PlanArms}
use Rattle.dependence.specs.PlanView.{arm_view, arms, plan_block}
use Rattle.plan_check.proofs.Nodes.{advance_of, all_listed, arm_listed, arms_listed, as_choice, as_loop, as_made, as_node, await_of, choice_of, loop_of, made_of, next_listed, plain_of}
use Rattle.plan_check.proofs.Passing.{arm_here}
use Rattle.plan_check.proofs.events.+events.Goals as goal

pub add_arms-loop-arm-init : goal.add_arms-loop-arm-init
add_arms-loop-arm-init t c = λ (last : PlanArms). refl

pub add_arms-returns-in_err-add_block : goal.add_arms-returns-in_err-add_block
add_arms-returns-in_err-add_block t c = no_answer _ _ c.from_residual.ensures.0

pub add_arms-loop-arm-preserved : goal.add_arms-loop-arm-preserved
add_arms-loop-arm-preserved t c =
    let xs = c.args.arms.now in
    let i = c.loop-arm.arm-index in
    let a = c.arm-item.result in
    let body : a.body.items ≡ c.deref.result.now = search rules in
    let here = arm_here xs i a a.condition c.deref.result.now c.loop-arm-test.true c.arm-item.is refl body in
    λ (last : PlanArms). arm_listed a.line (optional_term a.condition) (plan_block c.deref.result.now) (arms (map arm_view (drop (i + 1) xs)) last) (arms (map arm_view (drop i xs)) last) _ _ _ (here last) c.in_ok-add_block.ensures (c.loop-arm.invariant last)

pub add_arms-returns : goal.add_arms-returns
add_arms-returns t c = λ (last : PlanArms). arms_listed c.args.arms.now c.loop-arm.arm-index _ _ last c.loop-arm-test.false (c.loop-arm.invariant last)

pub add_block-loop-node-init : goal.add_block-loop-node-init
add_block-loop-node-init t c = refl

pub add_block-returns-in_err-add_node : goal.add_block-returns-in_err-add_node
add_block-returns-in_err-add_node t c = no_answer _ _ c.from_residual.ensures.0

pub add_block-loop-node-preserved : goal.add_block-loop-node-preserved
add_block-loop-node-preserved t c =
    next_listed c.args.nodes.now c.loop-node.node-index c.node-item.result _ _ _ c.loop-node-test.true c.node-item.is c.in_ok-add_node.ensures c.loop-node.invariant

pub add_block-returns : goal.add_block-returns
add_block-returns t c = all_listed c.args.nodes.now c.loop-node.node-index _ _ c.loop-node-test.false c.loop-node.invariant

pub add_node-returns-in_err-push-in-Await : goal.add_node-returns-in_err-push-in-Await
add_node-returns-in_err-push-in-Await t c = no_answer _ _ c.from_residual.ensures.0

pub add_node-returns-in_err-push-in-Advance : goal.add_node-returns-in_err-push-in-Advance
add_node-returns-in_err-push-in-Advance t c = no_answer _ _ c.from_residual-in_err-push-in-Advance.ensures.0

pub add_node-returns-in_err-add_arms-in-Choice : goal.add_node-returns-in_err-add_arms-in-Choice
add_node-returns-in_err-add_arms-in-Choice t c = no_answer _ _ c.from_residual-in_err-add_arms-in-Choice.ensures.0

pub add_node-returns-in_ok-push-in-Await : goal.add_node-returns-in_ok-push-in-Await
add_node-returns-in_ok-push-in-Await t c = as_node _ _ _ _ (await_of _ _ _ c.in-Await.is) c.in_ok-push-in-Await.ensures.items

pub add_node-returns-in_ok-push-in-Advance : goal.add_node-returns-in_ok-push-in-Advance
add_node-returns-in_ok-push-in-Advance t c = as_node _ _ _ _ (advance_of _ _ c.in-Advance.is) c.in_ok-push-in-Advance.ensures.items

pub add_node-returns-in-Plain : goal.add_node-returns-in-Plain
add_node-returns-in-Plain t c = as_node _ _ _ _ (plain_of _ _ c.in-Plain.is) refl

pub add_node-returns-in-Loop : goal.add_node-returns-in-Loop
add_node-returns-in-Loop t c = as_loop _ _ _ _ _ (loop_of _ _ _ _ _ c.in-Loop.is c.deref.ensures.value) c.add_block.ensures

pub add_node-returns-in-Some : goal.add_node-returns-in-Some
add_node-returns-in-Some t c =
    as_made _ _ _ _ _ _ _ (made_of _ _ _ _ _ _ c.in-Choice.is c.in-Some.is c.deref-in-Choice.ensures.value c.deref-in-Some.ensures.value) c.in_ok-add_arms-in-Choice.ensures c.add_block-in-Some.ensures

pub add_node-returns-in-None : goal.add_node-returns-in-None
add_node-returns-in-None t c =
    as_choice _ _ _ _ (choice_of _ _ _ _ c.in-Choice.is c.in-None.is c.deref-in-Choice.ensures.value) c.in_ok-add_arms-in-Choice.ensures
