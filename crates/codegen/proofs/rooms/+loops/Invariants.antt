use Rattle.std.proofs.Common.{◌≡◌, ◌≤◌, drop, length, map}
use Rattle.ast.specs.Tree.{arms as arms_tree}
use Rattle.ast.specs.View.{arm as arm_of, block_view}
use Rattle.expr_code.specs.Emitted.{short}
use Rattle.codegen.specs.Plain.{plain_arms, plain_block}
use Rattle.codegen.specs.Room.{arms_loops, block_loops}
use Rattle.codegen.proofs.rooms.+loops.Given as goal

abbrev pub invariant-loops_of_arms-loop-left : goal.invariant-loops_of_arms-loop-left
invariant-loops_of_arms-loop-left l = (l.left ≤ length l.arms) × (l.most ≡ short (arms_loops (plain_arms (arms_tree (map arm_of (drop l.left l.arms))))))

abbrev pub decreases-loops_of_arms-loop-left : goal.decreases-loops_of_arms-loop-left
decreases-loops_of_arms-loop-left l = l.left

abbrev pub invariant-loops_of_block-loop-left : goal.invariant-loops_of_block-loop-left
invariant-loops_of_block-loop-left l = (l.left ≤ length l.nodes) × (l.most ≡ short (block_loops (plain_block (block_view (drop l.left l.nodes)))))

abbrev pub decreases-loops_of_block-loop-left : goal.decreases-loops_of_block-loop-left
decreases-loops_of_block-loop-left l = l.left
