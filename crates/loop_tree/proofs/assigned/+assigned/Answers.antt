use Rattle.std.proofs.Common.{◌∙◌, ap, map, refl, sym}
use Rattle.ast.specs.Tree.{arms}
use Rattle.ast.specs.View.{arm, block_view, node}
use Rattle.ast.proofs.Nodes.{plain_of, loop_of, choice_of}
use Rattle.loop_tree.specs.Loops.{with_arms, with_block, with_node}
use Rattle.loop_tree.specs.ScalarsView.{scalars}
use Rattle.loop_tree.proofs.Nodes.{body_of, of_node}
use Rattle.loop_tree.proofs.Passing.{next, passed}
use Rattle.loop_tree.proofs.assigned.+assigned.Goals as goal

pub add_arms-loop-arm-init : goal.add_arms-loop-arm-init
add_arms-loop-arm-init t c = refl

pub add_arms-loop-arm-preserved : goal.add_arms-loop-arm-preserved
add_arms-loop-arm-preserved t c =
    next (λ a s. with_block s (arm a).body) (λ more s. with_arms s (arms (map arm more))) (λ a more s. refl) c.args.arms.now c.loop-arm.arm-index c.arm-item.result _ _ _ c.loop-arm-test.true c.arm-item.is
    (c.in_ok-add_assigned.ensures ∙ sym (ap (λ b. with_block (scalars c.loop-arm.scalars) b) (body_of c.arm-item.result _ c.deref.ensures.value))) c.loop-arm.invariant

pub add_arms-returns : goal.add_arms-returns
add_arms-returns t c =
    passed (λ a s. with_block s (arm a).body) (λ more s. with_arms s (arms (map arm more))) (λ s. refl) c.args.arms.now c.loop-arm.arm-index _ _ c.loop-arm-test.false c.loop-arm.invariant

pub add_assigned-loop-node-init : goal.add_assigned-loop-node-init
add_assigned-loop-node-init t c = refl

pub add_assigned-loop-node-preserved : goal.add_assigned-loop-node-preserved
add_assigned-loop-node-preserved t c =
    next (λ n s. with_node s (node n)) (λ ns s. with_block s (block_view ns)) (λ n ns s. refl) c.args.nodes.now c.loop-node.node-index c.node-item.result _ _ _ c.loop-node-test.true c.node-item.is c.in_ok-add_node.ensures c.loop-node.invariant

pub add_assigned-returns : goal.add_assigned-returns
add_assigned-returns t c =
    passed (λ n s. with_node s (node n)) (λ ns s. with_block s (block_view ns)) (λ s. refl) c.args.nodes.now c.loop-node.node-index _ _ c.loop-node-test.false c.loop-node.invariant

pub add_node-returns-in-Plain : goal.add_node-returns-in-Plain
add_node-returns-in-Plain t c = of_node (λ n. with_node (scalars c.args.scalars.now) n) _ _ _ _ (plain_of _ _ c.in-Plain.is) c.add_kind.ensures

pub add_node-returns-in-Loop : goal.add_node-returns-in-Loop
add_node-returns-in-Loop t c = of_node (λ n. with_node (scalars c.args.scalars.now) n) _ _ _ _ (loop_of _ _ _ _ _ c.in-Loop.is c.deref.ensures.value) c.add_range.ensures

pub add_node-returns-in-Choice : goal.add_node-returns-in-Choice
add_node-returns-in-Choice t c = of_node (λ n. with_node (scalars c.args.scalars.now) n) _ _ _ _ (choice_of _ _ _ c.in-Choice.is c.deref-in-Choice.ensures.value) c.add_arms.ensures
