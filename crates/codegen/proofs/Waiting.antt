-- A program awaits nothing, whichever of its loops are opened.
use Rattle.std.proofs.Common.{◌≡◌, ℕ, List, [], ◌++◌, Option, Some, None, refl}
use Rattle.ast.specs.Tree.{Node, plain, loop, choose, Block, no_nodes, then_node, Arms, no_arms, then_arm}
use Rattle.ast.proofs.Lists.{none_else, both_none}
use Rattle.expr_code.specs.Places.{Places}
use Rattle.codegen.specs.Emitted.{arms_awaits, block_awaits, if_serial, node_awaits}
use Rattle.codegen.specs.Plain.{plain_arms, plain_block, plain_node}
use Rattle.codegen.specs.Process.{is_last_stop}

serial_none : {X : Type 0} (o : Option ℕ) (xs : List X) → xs ≡ [] → if_serial o xs ≡ []
serial_none None xs h = h
serial_none (Some n) xs h = refl

module _ (p : Places) (opens : ℕ → Option ℕ) where
  mutual
    pub node_waits : (n : Node) → node_awaits p opens (plain_node n) ≡ []
    node_waits (plain s) = refl
    node_waits (loop l h b) = serial_none (opens h.variable.id) (block_awaits p opens (plain_block b)) (block_waits b)
    node_waits (choose a) = arms_wait a

    pub block_waits : (b : Block) → block_awaits p opens (plain_block b) ≡ []
    block_waits no_nodes = refl
    block_waits (then_node n b) =
        none_else (is_last_stop (plain_node n) (plain_block b)) (node_awaits p opens (plain_node n) ++ block_awaits p opens (plain_block b)) (both_none (node_awaits p opens (plain_node n)) (block_awaits p opens (plain_block b)) (node_waits n) (block_waits b))

    pub arms_wait : (a : Arms) → arms_awaits p opens (plain_arms a) ≡ []
    arms_wait no_arms = refl
    arms_wait (then_arm line None b more) = block_waits b
    arms_wait (then_arm line (Some c) b more) = both_none (block_awaits p opens (plain_block b)) (arms_awaits p opens (plain_arms more)) (block_waits b) (arms_wait more)
