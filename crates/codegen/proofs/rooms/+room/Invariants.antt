use Rattle.std.proofs.Common.{◌≡◌, ◌≤◌, drop, length, map}
use Rattle.ast.specs.Tree.{arms as arms_tree}
use Rattle.ast.specs.View.{arm as arm_of, block_view}
use Rattle.expr_code.specs.Emitted.{short}
use Rattle.codegen.specs.Plain.{plain_arms, plain_block}
use Rattle.codegen.specs.Room.{arms_room, block_room}
use Rattle.codegen.proofs.rooms.+room.Given as goal

abbrev pub invariant-of_arms-loop-left : goal.invariant-of_arms-loop-left
invariant-of_arms-loop-left l = (l.left ≤ length l.arms) × (l.most ≡ short (arms_room (plain_arms (arms_tree (map arm_of (drop l.left l.arms))))))

abbrev pub decreases-of_arms-loop-left : goal.decreases-of_arms-loop-left
decreases-of_arms-loop-left l = l.left

abbrev pub invariant-of_block-loop-left : goal.invariant-of_block-loop-left
invariant-of_block-loop-left l = (l.left ≤ length l.nodes) × (l.most ≡ short (block_room (plain_block (block_view (drop l.left l.nodes)))))

abbrev pub decreases-of_block-loop-left : goal.decreases-of_block-loop-left
decreases-of_block-loop-left l = l.left
