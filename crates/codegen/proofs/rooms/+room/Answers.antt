use Rattle.std.proofs.Common.{◌≤◌, map, rules}
use Rattle.ast.specs.Tree.{arms as arms_tree}
use Rattle.ast.specs.View.{arm as arm_of, block_view}
use Rattle.expr_code.specs.Emitted.{short}
use Rattle.codegen.specs.Plain.{plain_arms, plain_block}
use Rattle.codegen.specs.Room.{arms_room, block_room}
use Rattle.codegen.proofs.Emitting.{all_done}
use Rattle.codegen.proofs.rooms.+room.Goals as goal

pub of_arms-returns : goal.of_arms-returns
of_arms-returns t c =
    let done : c.loop-left.left ≤ 0 = search rules in
    all_done (λ xs. short (arms_room (plain_arms (arms_tree (map arm_of xs))))) c.args.arms.now c.loop-left.left c.loop-left.most done c.loop-left.invariant.1

pub of_block-returns : goal.of_block-returns
of_block-returns t c =
    let done : c.loop-left.left ≤ 0 = search rules in
    all_done (λ xs. short (block_room (plain_block (block_view xs)))) c.args.nodes.now c.loop-left.left c.loop-left.most done c.loop-left.invariant.1
