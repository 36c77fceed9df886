use Rattle.std.proofs.Common.{arith, ◌≡◌, ◌∙◌, ap, length, map, refl, rules}
use Rattle.std.specs.Prelude.{replicate}
use Rattle.std.proofs.lemmas.List.{take_at}
use Rattle.ast.specs.Tree.{arms}
use Rattle.ast.specs.View.{arm, block_view, head}
use Rattle.ast.proofs.Nodes.{loop_of, choice_of}
use Rattle.ast.proofs.Calls.{no_answer}
use Rattle.privatise.specs.Cells.{joined}
use Rattle.privatise.specs.Flow.{after_arms}
use Rattle.privatise.specs.declared.walk.Walk.TheVariants.{Defined}
use Rattle.privatise.proofs.Passed.{all_passed, arm_passed, arms_passed, else_passed, looped, node_passed, of_tree, plain_passed}
use Rattle.privatise.proofs.flow.+flow.Goals as goal

pub pass_arms-returns-in_err-ended : goal.pass_arms-returns-in_err-ended
pass_arms-returns-in_err-ended t c = no_answer _ _ c.from_residual.ensures.0

pub pass_arms-loop-arm-init : goal.pass_arms-loop-arm-init
pass_arms-loop-arm-init t c =
    let fresh : c.in_ok-ended.ended.items ≡ replicate (length c.args.walks.now) Defined = search rules in
    ap (λ ws. after_arms (arms (map arm c.args.arms.now)) ws c.args.walks.now) fresh

pub pass_arms-returns-in_err-pass_block-in-None : goal.pass_arms-returns-in_err-pass_block-in-None
pass_arms-returns-in_err-pass_block-in-None t c = no_answer _ _ c.from_residual-in_err-pass_block-in-None.ensures.0

pub pass_arms-returns-in-None : goal.pass_arms-returns-in-None
pass_arms-returns-in-None t c =
    else_passed c.args.arms.now c.loop-arm.arm-index c.arm-item.result c.deref.result.now c.loop-arm.ended.items _ _ _ _ c.loop-arm-test.true c.arm-item.is c.in-None.is c.deref.ensures.value c.in_ok-pass_block-in-None.ensures
    (c.join.ensures ∙ ap (joined c.pass_block.new.walks) c.deref-in-None.ensures.value) c.loop-arm.invariant

pub pass_arms-returns-in_err-branch-in-Some : goal.pass_arms-returns-in_err-branch-in-Some
pass_arms-returns-in_err-branch-in-Some t c = no_answer _ _ c.from_residual-in_err-branch-in-Some.ensures.0

pub pass_arms-returns-in_err-pass_block-in-Some : goal.pass_arms-returns-in_err-pass_block-in-Some
pass_arms-returns-in_err-pass_block-in-Some t c = no_answer _ _ c.from_residual-in_err-pass_block-in-Some.ensures.0

pub pass_arms-loop-arm-preserved : goal.pass_arms-loop-arm-preserved
pass_arms-loop-arm-preserved t c =
    let inner = c.pass_block-in-Some.new.walks in
    let sized : length inner ≡ c.in_ok-branch-in-Some.branch.len = omega arith in
    let longer : length c.join-in-Some.new.walks ≡ c.loop-arm.ended.len = omega arith in
    let back : c.deref-in-Some-2.result.now ≡ inner = c.deref-in-Some-2.ensures.value ∙ take_at inner _ _ sized in
    arm_passed c.args.arms.now c.loop-arm.arm-index c.arm-item.result c.in-Some.condition c.deref-in-Some.result.now c.loop-arm.ended.items c.loop-arm.walks c.pass_term.new.walks _ inner _ _ c.loop-arm-test.true c.arm-item.is c.in-Some.is c.deref-in-Some.ensures.value c.pass_term.ensures
    (c.deref_mut.ensures.value ∙ c.in_ok-branch-in-Some.ensures.items) c.in_ok-pass_block-in-Some.ensures
    (take_at c.join-in-Some.new.walks _ _ longer ∙ c.join-in-Some.ensures ∙ ap (λ ws. joined ws c.deref-in-Some-2.result.now) c.deref_mut-in-Some.ensures.value ∙ ap (joined c.loop-arm.ended.items) back) c.loop-arm.invariant

pub pass_arms-returns : goal.pass_arms-returns
pass_arms-returns t c =
    arms_passed c.args.arms.now c.loop-arm.arm-index c.loop-arm.ended.items c.loop-arm.walks _ _ c.loop-arm-test.false (c.join-2.ensures ∙ ap (joined c.loop-arm.walks) c.deref-2.ensures.value) c.loop-arm.invariant

pub pass_block-loop-node-init : goal.pass_block-loop-node-init
pass_block-loop-node-init t c = refl

pub pass_block-returns-in_err-pass_node : goal.pass_block-returns-in_err-pass_node
pass_block-returns-in_err-pass_node t c = no_answer _ _ c.from_residual.ensures.0

pub pass_block-loop-node-preserved : goal.pass_block-loop-node-preserved
pass_block-loop-node-preserved t c =
    node_passed c.args.nodes.now c.loop-node.node-index c.node-item.result _ _ _ c.loop-node-test.true c.node-item.is c.in_ok-pass_node.ensures c.loop-node.invariant

pub pass_block-returns : goal.pass_block-returns
pass_block-returns t c = all_passed c.args.nodes.now c.loop-node.node-index _ _ c.loop-node-test.false c.loop-node.invariant

pub pass_loop-returns-in_err-before : goal.pass_loop-returns-in_err-before
pass_loop-returns-in_err-before t c = no_answer _ _ c.from_residual.ensures.0

pub pass_loop-returns-in_err-pass_block : goal.pass_loop-returns-in_err-pass_block
pass_loop-returns-in_err-pass_block t c = no_answer _ _ c.from_residual-in_err-pass_block.ensures.0

pub pass_loop-returns : goal.pass_loop-returns
pass_loop-returns t c =
    looped (head c.args.head.now) (block_view c.args.range.now) _ _ _ _ _ c.pass_head.ensures (c.deref.ensures.value ∙ c.in_ok-before.ensures.items) c.in_ok-pass_block.ensures c.join.ensures

pub pass_node-returns-in-Plain : goal.pass_node-returns-in-Plain
pass_node-returns-in-Plain t c =
    plain_passed _ _ _ _ c.in-Plain.is c.pass_kind.ensures

pub pass_node-returns-in-Loop : goal.pass_node-returns-in-Loop
pass_node-returns-in-Loop t c = of_tree _ _ _ _ _ (loop_of _ _ _ _ _ c.in-Loop.is c.deref.ensures.value) c.pass_loop.ensures

pub pass_node-returns-in-Choice : goal.pass_node-returns-in-Choice
pass_node-returns-in-Choice t c = of_tree _ _ _ _ _ (choice_of _ _ _ c.in-Choice.is c.deref-in-Choice.ensures.value) c.pass_arms.ensures
