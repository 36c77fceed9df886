use Rattle.std.proofs.Common.{◌≡◌, ◌+◌, drop, map, refl, rules}
use Rattle.ast.specs.View.{optional_term}
use Rattle.dependence.specs.Plan.{PlanArms, made_else, no_arms}
use Rattle.dependence.specs.PlanView.{arm_view, arms, plan_block}
use Rattle.plan_check.specs.GoodPlan.{made_bare, made_bare_arms}
use Rattle.plan_check.proofs.Nodes.{choice_of, loop_of, made_of, some_choice}
use Rattle.plan_check.proofs.Passing.{arm_here}
use Rattle.plan_check.proofs.Tested.{all_pass, alone, arm_fails, arm_passes, arms_pass, bare_apart, choice_fails, choice_passes, next_fails, next_passes, node_passes}
use Rattle.plan_check.proofs.bodies.+bare.Goals as goal

pub is_bare-loop-node-init : goal.is_bare-loop-node-init
is_bare-loop-node-init t c = refl

pub is_bare-returns-then-not-is_bare_node : goal.is_bare-returns-then-not-is_bare_node
is_bare-returns-then-not-is_bare_node t c = next_fails made_bare bare_apart c.args.nodes.now c.loop-node.node-index c.node-item.result c.is_bare_node.result _ c.loop-node-test.true c.node-item.is c.is_bare_node.ensures c.if-not-is_bare_node.true c.loop-node.invariant

pub is_bare-loop-node-preserved : goal.is_bare-loop-node-preserved
is_bare-loop-node-preserved t c = next_passes made_bare bare_apart c.args.nodes.now c.loop-node.node-index c.node-item.result c.is_bare_node.result _ c.loop-node-test.true c.node-item.is c.is_bare_node.ensures c.if-not-is_bare_node.false c.loop-node.invariant

pub is_bare-returns : goal.is_bare-returns
is_bare-returns t c = all_pass made_bare c.args.nodes.now c.loop-node.node-index _ refl c.loop-node-test.false c.loop-node.invariant

pub are_bare_arms-loop-arm-init : goal.are_bare_arms-loop-arm-init
are_bare_arms-loop-arm-init t c = λ (last : PlanArms). refl

pub are_bare_arms-returns-then-not-is_bare : goal.are_bare_arms-returns-then-not-is_bare
are_bare_arms-returns-then-not-is_bare t c =
    let xs = c.args.arms.now in
    let i = c.loop-arm.arm-index in
    let a = c.arm-item.result in
    let body : a.body.items ≡ c.deref.result.now = search rules in
    let here = arm_here xs i a a.condition c.deref.result.now c.loop-arm-test.true c.arm-item.is refl body in
    λ (last : PlanArms). arm_fails made_bare made_bare_arms (λ l o b more. refl) a.line (optional_term a.condition) (plan_block c.deref.result.now) (arms (map arm_view (drop (i + 1) xs)) last) (arms (map arm_view (drop i xs)) last) _ c.is_bare.result (here last) c.is_bare.ensures c.if-not-is_bare.true (c.loop-arm.invariant last)

pub are_bare_arms-loop-arm-preserved : goal.are_bare_arms-loop-arm-preserved
are_bare_arms-loop-arm-preserved t c =
    let xs = c.args.arms.now in
    let i = c.loop-arm.arm-index in
    let a = c.arm-item.result in
    let body : a.body.items ≡ c.deref.result.now = search rules in
    let here = arm_here xs i a a.condition c.deref.result.now c.loop-arm-test.true c.arm-item.is refl body in
    λ (last : PlanArms). arm_passes made_bare made_bare_arms (λ l o b more. refl) a.line (optional_term a.condition) (plan_block c.deref.result.now) (arms (map arm_view (drop (i + 1) xs)) last) (arms (map arm_view (drop i xs)) last) _ c.is_bare.result (here last) c.is_bare.ensures c.if-not-is_bare.false (c.loop-arm.invariant last)

pub are_bare_arms-returns : goal.are_bare_arms-returns
are_bare_arms-returns t c = λ (last : PlanArms). arms_pass made_bare made_bare_arms c.args.arms.now c.loop-arm.arm-index _ last c.loop-arm-test.false (c.loop-arm.invariant last)

pub is_bare_node-returns-in-Loop : goal.is_bare_node-returns-in-Loop
is_bare_node-returns-in-Loop t c = node_passes made_bare _ _ _ (loop_of _ _ _ _ _ c.in-Loop.is c.deref.ensures.value) (alone _ _ c.is_bare.ensures)

pub is_bare_node-returns-in-Some : goal.is_bare_node-returns-in-Some
is_bare_node-returns-in-Some t c = node_passes made_bare _ _ _ (made_of _ _ _ _ _ _ c.in-Choice.is c.in-Some.is c.deref-in-Choice.ensures.value c.deref-in-Some.ensures.value) (choice_passes made_bare made_bare_arms (map arm_view c.deref-in-Choice.result.now) (made_else (plan_block c.deref-in-Some.result.now)) _ _ c.if-are_bare_arms.true c.are_bare_arms.ensures c.only_events.ensures)

pub is_bare_node-returns-in-None : goal.is_bare_node-returns-in-None
is_bare_node-returns-in-None t c = node_passes made_bare _ _ _ (choice_of _ _ _ _ c.in-Choice.is c.in-None.is c.deref-in-Choice.ensures.value) (choice_passes made_bare made_bare_arms (map arm_view c.deref-in-Choice.result.now) no_arms _ _ c.if-are_bare_arms.true c.are_bare_arms.ensures refl)

pub is_bare_node-returns-else-are_bare_arms : goal.is_bare_node-returns-else-are_bare_arms
is_bare_node-returns-else-are_bare_arms t c =
    let choice = some_choice _ _ _ _ c.in-Choice.is c.deref-in-Choice.ensures.value in
    node_passes made_bare _ _ _ choice.1 (choice_fails made_bare made_bare_arms (map arm_view c.deref-in-Choice.result.now) choice.0 _ c.if-are_bare_arms.false c.are_bare_arms.ensures)
