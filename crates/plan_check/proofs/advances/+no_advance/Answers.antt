use Rattle.std.proofs.Common.{◌≡◌, ◌+◌, drop, map, refl, rules}
use Rattle.ast.specs.View.{optional_term}
use Rattle.dependence.specs.Plan.{PlanArms, made_else, no_arms}
use Rattle.dependence.specs.PlanView.{arm_view, arms, plan_block}
use Rattle.plan_check.specs.Flow.{no_advance, no_advance_arms}
use Rattle.plan_check.proofs.Nodes.{choice_of, loop_of, made_of, some_choice}
use Rattle.plan_check.proofs.Passing.{arm_here}
use Rattle.plan_check.proofs.Tested.{all_pass, alone, arm_fails, arm_passes, arms_pass, no_advance_apart, choice_fails, choice_passes, next_fails, next_passes, node_passes}
use Rattle.plan_check.proofs.advances.+no_advance.Goals as goal

pub no_advance-loop-node-init : goal.no_advance-loop-node-init
no_advance-loop-node-init t c = refl

pub no_advance-returns-then-not-no_advance_in_node : goal.no_advance-returns-then-not-no_advance_in_node
no_advance-returns-then-not-no_advance_in_node t c = next_fails no_advance no_advance_apart c.args.nodes.now c.loop-node.node-index c.node-item.result c.no_advance_in_node.result _ c.loop-node-test.true c.node-item.is c.no_advance_in_node.ensures c.if-not-no_advance_in_node.true c.loop-node.invariant

pub no_advance-loop-node-preserved : goal.no_advance-loop-node-preserved
no_advance-loop-node-preserved t c = next_passes no_advance no_advance_apart c.args.nodes.now c.loop-node.node-index c.node-item.result c.no_advance_in_node.result _ c.loop-node-test.true c.node-item.is c.no_advance_in_node.ensures c.if-not-no_advance_in_node.false c.loop-node.invariant

pub no_advance-returns : goal.no_advance-returns
no_advance-returns t c = all_pass no_advance c.args.nodes.now c.loop-node.node-index _ refl c.loop-node-test.false c.loop-node.invariant

pub no_advance_in_arms-loop-arm-init : goal.no_advance_in_arms-loop-arm-init
no_advance_in_arms-loop-arm-init t c = λ (last : PlanArms). refl

pub no_advance_in_arms-returns-then-not-no_advance : goal.no_advance_in_arms-returns-then-not-no_advance
no_advance_in_arms-returns-then-not-no_advance t c =
    let xs = c.args.arms.now in
    let i = c.loop-arm.arm-index in
    let a = c.arm-item.result in
    let body : a.body.items ≡ c.deref.result.now = search rules in
    let here = arm_here xs i a a.condition c.deref.result.now c.loop-arm-test.true c.arm-item.is refl body in
    λ (last : PlanArms). arm_fails no_advance no_advance_arms (λ l o b more. refl) a.line (optional_term a.condition) (plan_block c.deref.result.now) (arms (map arm_view (drop (i + 1) xs)) last) (arms (map arm_view (drop i xs)) last) _ c.no_advance.result (here last) c.no_advance.ensures c.if-not-no_advance.true (c.loop-arm.invariant last)

pub no_advance_in_arms-loop-arm-preserved : goal.no_advance_in_arms-loop-arm-preserved
no_advance_in_arms-loop-arm-preserved t c =
    let xs = c.args.arms.now in
    let i = c.loop-arm.arm-index in
    let a = c.arm-item.result in
    let body : a.body.items ≡ c.deref.result.now = search rules in
    let here = arm_here xs i a a.condition c.deref.result.now c.loop-arm-test.true c.arm-item.is refl body in
    λ (last : PlanArms). arm_passes no_advance no_advance_arms (λ l o b more. refl) a.line (optional_term a.condition) (plan_block c.deref.result.now) (arms (map arm_view (drop (i + 1) xs)) last) (arms (map arm_view (drop i xs)) last) _ c.no_advance.result (here last) c.no_advance.ensures c.if-not-no_advance.false (c.loop-arm.invariant last)

pub no_advance_in_arms-returns : goal.no_advance_in_arms-returns
no_advance_in_arms-returns t c = λ (last : PlanArms). arms_pass no_advance no_advance_arms c.args.arms.now c.loop-arm.arm-index _ last c.loop-arm-test.false (c.loop-arm.invariant last)

pub no_advance_in_node-returns-in-Loop : goal.no_advance_in_node-returns-in-Loop
no_advance_in_node-returns-in-Loop t c = node_passes no_advance _ _ _ (loop_of _ _ _ _ _ c.in-Loop.is c.deref.ensures.value) (alone _ _ c.no_advance.ensures)

pub no_advance_in_node-returns-in-Some : goal.no_advance_in_node-returns-in-Some
no_advance_in_node-returns-in-Some t c = node_passes no_advance _ _ _ (made_of _ _ _ _ _ _ c.in-Choice.is c.in-Some.is c.deref-in-Choice.ensures.value c.deref-in-Some.ensures.value) (choice_passes no_advance no_advance_arms (map arm_view c.deref-in-Choice.result.now) (made_else (plan_block c.deref-in-Some.result.now)) _ _ c.if-no_advance_in_arms.true c.no_advance_in_arms.ensures c.no_advance-in-Some.ensures)

pub no_advance_in_node-returns-in-None : goal.no_advance_in_node-returns-in-None
no_advance_in_node-returns-in-None t c = node_passes no_advance _ _ _ (choice_of _ _ _ _ c.in-Choice.is c.in-None.is c.deref-in-Choice.ensures.value) (choice_passes no_advance no_advance_arms (map arm_view c.deref-in-Choice.result.now) no_arms _ _ c.if-no_advance_in_arms.true c.no_advance_in_arms.ensures refl)

pub no_advance_in_node-returns-else-no_advance_in_arms : goal.no_advance_in_node-returns-else-no_advance_in_arms
no_advance_in_node-returns-else-no_advance_in_arms t c =
    let choice = some_choice _ _ _ _ c.in-Choice.is c.deref-in-Choice.ensures.value in
    node_passes no_advance _ _ _ choice.1 (choice_fails no_advance no_advance_arms (map arm_view c.deref-in-Choice.result.now) choice.0 _ c.if-no_advance_in_arms.false c.no_advance_in_arms.ensures)
