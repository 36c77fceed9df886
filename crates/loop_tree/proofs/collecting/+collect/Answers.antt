use Rattle.std.proofs.Common.{◌≡◌, ◌∙◌, length, refl, rules, sym, map}
use Rattle.std.proofs.lemmas.List.{length-map}
use Rattle.ast.specs.Tree.{arms}
use Rattle.ast.specs.View.{arm, block_view, head, node}
use Rattle.ast.proofs.Nodes.{plain_of, loop_of, choice_of}
use Rattle.loop_tree.specs.Collecting.{after_arms, after_block, after_node}
use Rattle.loop_tree.specs.CollectedView.{collected, span}
use Rattle.loop_tree.proofs.Added.{after_arm, after_choice, after_loop, next_arm}
use Rattle.loop_tree.proofs.Nodes.{of_node}
use Rattle.loop_tree.proofs.Passing.{next, passed}
use Rattle.loop_tree.proofs.collecting.+collect.Goals as goal

pub add_nodes-loop-node-init : goal.add_nodes-loop-node-init
add_nodes-loop-node-init t c = refl

pub add_nodes-loop-node-preserved : goal.add_nodes-loop-node-preserved
add_nodes-loop-node-preserved t c =
    next (λ n s. after_node c.args.around (node n) s) (λ ns s. after_block c.args.around (block_view ns) s) (λ n ns s. refl) c.args.nodes.now c.loop-node.node-index c.node-item.result _ _ _ c.loop-node-test.true c.node-item.is c.in_ok-add_node.ensures c.loop-node.invariant

pub add_nodes-returns : goal.add_nodes-returns
add_nodes-returns t c =
    passed (λ n s. after_node c.args.around (node n) s) (λ ns s. after_block c.args.around (block_view ns) s) (λ s. refl) c.args.nodes.now c.loop-node.node-index _ _ c.loop-node-test.false c.loop-node.invariant

pub add_arms-loop-arm-init : goal.add_arms-loop-arm-init
add_arms-loop-arm-init t c = refl

pub add_arms-loop-arm-preserved : goal.add_arms-loop-arm-preserved
add_arms-loop-arm-preserved t c =
    next_arm c.args.around c.args.number c.args.arms.now c.loop-arm.arm-index c.arm-item.result _ _ _ _ _ c.loop-arm-test.true c.arm-item.is c.deref.ensures.value c.in_ok-add_optional.ensures c.in_ok-add_nodes.ensures c.loop-arm.invariant

pub add_arms-returns : goal.add_arms-returns
add_arms-returns t c =
    passed (after_arm c.args.around c.args.number) (λ more s. after_arms c.args.around c.args.number (arms (map arm more)) s) (λ s. refl) c.args.arms.now c.loop-arm.arm-index _ _ c.loop-arm-test.false c.loop-arm.invariant

pub add_node-returns-in-Plain : goal.add_node-returns-in-Plain
add_node-returns-in-Plain t c = of_node (λ n. after_node c.args.around n (collected c.args.parts.now)) _ _ _ _ (plain_of _ _ c.in-Plain.is) c.add_plain.ensures

pub add_node-returns-in-Loop : goal.add_node-returns-in-Loop
add_node-returns-in-Loop t c = of_node (λ n. after_node c.args.around n (collected c.args.parts.now)) _ _ _ _ (loop_of _ _ _ _ _ c.in-Loop.is c.deref.ensures.value) c.add_loop.ensures

pub add_node-returns-in-Choice : goal.add_node-returns-in-Choice
add_node-returns-in-Choice t c = of_node (λ n. after_node c.args.around n (collected c.args.parts.now)) _ _ _ _ (choice_of _ _ _ c.in-Choice.is c.deref-in-Choice.ensures.value) c.add_choice.ensures

pub add_loop-returns : goal.add_loop-returns
add_loop-returns t c =
    let at : c.len-place.result ≡ length c.args.parts.now.loops.items = search rules in
    after_loop c.args.around c.args.line (head c.args.head.now) (block_view c.args.range.now) c.len-place.result _ _ _ _ (at ∙ sym (length-map c.args.parts.now.loops.items span)) c.in_ok-begin.ensures c.in_ok-add_nodes.ensures c.end_range.ensures

pub add_choice-returns : goal.add_choice-returns
add_choice-returns t c =
    let at : c.len-number.result ≡ length c.args.parts.now.lines.items = search rules in
    after_choice _ c.args.around (arms (map arm c.args.arms.now)) c.len-number.result c.first_line.result _ _ _ at c.first_line.ensures c.in_ok-add_line.ensures c.add_arms.ensures
