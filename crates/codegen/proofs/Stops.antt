-- A STOP that END follows is told alike in a program and in its plan.
use Rattle.std.proofs.Common.{◌≡◌, ◌∙◌, Bool, refl, sym}
use Rattle.ast.specs.Meaning as meaning
use Rattle.ast.specs.Tree.{Node, plain, loop, choose, Block, no_nodes, then_node}
use Rattle.codegen.specs.Plain.{plain_block, plain_node}
use Rattle.codegen.specs.Process.{is_last_stop}

pub last_same : (n : Node) (b : Block) → is_last_stop (plain_node n) (plain_block b) ≡ meaning.is_last_stop n b
last_same (plain s) no_nodes = refl
last_same (plain s) (then_node (plain t) no_nodes) = refl
last_same (plain s) (then_node (plain t) (then_node n b)) = refl
last_same (plain s) (then_node (loop l h c) b) = refl
last_same (plain s) (then_node (choose a) b) = refl
last_same (loop l h c) b = refl
last_same (choose a) b = refl

-- of the nodes that are left
pub last_told : (x : Bool) (n : Node) (b : Block) → x ≡ meaning.is_last_stop_of (then_node n b) → x ≡ is_last_stop (plain_node n) (plain_block b)
last_told x n b h = h ∙ sym (last_same n b)
