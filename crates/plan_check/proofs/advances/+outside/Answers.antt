use Rattle.std.proofs.Common.{◌≡◌, ◌+◌, drop, map, refl, rules}
use Rattle.ast.specs.View.{optional_term}
use Rattle.dependence.specs.Plan.{PlanArms, made_else, no_arms}
use Rattle.dependence.specs.PlanView.{arm_view, arms, plan_block}
use Rattle.plan_check.specs.Flow.{outside, outside_arms}
use Rattle.plan_check.proofs.Nodes.{choice_of, loop_of, made_of, some_choice}
use Rattle.plan_check.proofs.Passing.{arm_here}
use Rattle.plan_check.proofs.Tested.{all_pass, alone, arm_fails, arm_passes, arms_pass, outside_apart, choice_fails, choice_passes, next_fails, next_passes, node_passes}
use Rattle.plan_check.proofs.advances.+outside.Goals as goal

pub outside-loop-node-init : goal.outside-loop-node-init
outside-loop-node-init t c = refl

pub outside-returns-then-not-outside_in_node : goal.outside-returns-then-not-outside_in_node
outside-returns-then-not-outside_in_node t c = next_fails outside outside_apart c.args.nodes.now c.loop-node.node-index c.node-item.result c.outside_in_node.result _ c.loop-node-test.true c.node-item.is c.outside_in_node.ensures c.if-not-outside_in_node.true c.loop-node.invariant

pub outside-loop-node-preserved : goal.outside-loop-node-preserved
outside-loop-node-preserved t c = next_passes outside outside_apart c.args.nodes.now c.loop-node.node-index c.node-item.result c.outside_in_node.result _ c.loop-node-test.true c.node-item.is c.outside_in_node.ensures c.if-not-outside_in_node.false c.loop-node.invariant

pub outside-returns : goal.outside-returns
outside-returns t c = all_pass outside c.args.nodes.now c.loop-node.node-index _ refl c.loop-node-test.false c.loop-node.invariant

pub outside_in_arms-loop-arm-init : goal.outside_in_arms-loop-arm-init
outside_in_arms-loop-arm-init t c = λ (last : PlanArms). refl

pub outside_in_arms-returns-then-not-outside : goal.outside_in_arms-returns-then-not-outside
outside_in_arms-returns-then-not-outside t c =
    let xs = c.args.arms.now in
    let i = c.loop-arm.arm-index in
    let a = c.arm-item.result in
    let body : a.body.items ≡ c.deref.result.now = search rules in
    let here = arm_here xs i a a.condition c.deref.result.now c.loop-arm-test.true c.arm-item.is refl body in
    λ (last : PlanArms). arm_fails outside outside_arms (λ l o b more. refl) a.line (optional_term a.condition) (plan_block c.deref.result.now) (arms (map arm_view (drop (i + 1) xs)) last) (arms (map arm_view (drop i xs)) last) _ c.outside.result (here last) c.outside.ensures c.if-not-outside.true (c.loop-arm.invariant last)

pub outside_in_arms-loop-arm-preserved : goal.outside_in_arms-loop-arm-preserved
outside_in_arms-loop-arm-preserved t c =
    let xs = c.args.arms.now in
    let i = c.loop-arm.arm-index in
    let a = c.arm-item.result in
    let body : a.body.items ≡ c.deref.result.now = search rules in
    let here = arm_here xs i a a.condition c.deref.result.now c.loop-arm-test.true c.arm-item.is refl body in
    λ (last : PlanArms). arm_passes outside outside_arms (λ l o b more. refl) a.line (optional_term a.condition) (plan_block c.deref.result.now) (arms (map arm_view (drop (i + 1) xs)) last) (arms (map arm_view (drop i xs)) last) _ c.outside.result (here last) c.outside.ensures c.if-not-outside.false (c.loop-arm.invariant last)

pub outside_in_arms-returns : goal.outside_in_arms-returns
outside_in_arms-returns t c = λ (last : PlanArms). arms_pass outside outside_arms c.args.arms.now c.loop-arm.arm-index _ last c.loop-arm-test.false (c.loop-arm.invariant last)

pub outside_in_node-returns-in-Loop : goal.outside_in_node-returns-in-Loop
outside_in_node-returns-in-Loop t c = node_passes outside _ _ _ (loop_of _ _ _ _ _ c.in-Loop.is c.deref.ensures.value) (alone _ _ c.no_advance.ensures)

pub outside_in_node-returns-in-Some : goal.outside_in_node-returns-in-Some
outside_in_node-returns-in-Some t c = node_passes outside _ _ _ (made_of _ _ _ _ _ _ c.in-Choice.is c.in-Some.is c.deref-in-Choice.ensures.value c.deref-in-Some.ensures.value) (choice_passes outside outside_arms (map arm_view c.deref-in-Choice.result.now) (made_else (plan_block c.deref-in-Some.result.now)) _ _ c.if-outside_in_arms.true c.outside_in_arms.ensures c.outside.ensures)

pub outside_in_node-returns-in-None : goal.outside_in_node-returns-in-None
outside_in_node-returns-in-None t c = node_passes outside _ _ _ (choice_of _ _ _ _ c.in-Choice.is c.in-None.is c.deref-in-Choice.ensures.value) (choice_passes outside outside_arms (map arm_view c.deref-in-Choice.result.now) no_arms _ _ c.if-outside_in_arms.true c.outside_in_arms.ensures refl)

pub outside_in_node-returns-else-outside_in_arms : goal.outside_in_node-returns-else-outside_in_arms
outside_in_node-returns-else-outside_in_arms t c =
    let choice = some_choice _ _ _ _ c.in-Choice.is c.deref-in-Choice.ensures.value in
    node_passes outside _ _ _ choice.1 (choice_fails outside outside_arms (map arm_view c.deref-in-Choice.result.now) choice.0 _ c.if-outside_in_arms.false c.outside_in_arms.ensures)
