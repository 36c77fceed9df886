-- Parts of a program's statements: what is left of a list of nodes or arms, seen as plain data.
use Rattle.std.proofs.Common.{◌≡◌, ◌∙◌, ◌+◌, ◌<◌, ℕ, false, List, length, map, drop, take, Option, ap, get_or}
use Rattle.std.specs.Prelude.{◌-◌}
use Rattle.ast.specs.Meaning.{is_last_stop_of}
use Rattle.ast.specs.Tree.{Term, Block, then_arm, arms as arms_tree}
use Rattle.ast.specs.View.{arm as arm_of, block_view, node as node_of, optional_term}
use Rattle.ast.specs.declared.expression.Expr.{Expr}
use Rattle.ast.specs.declared.tree.Arm.{Arm}
use Rattle.ast.specs.declared.tree.Node.{Node}
use Rattle.ast.proofs.Nodes.{line_of, condition_of, body_of}
use Rattle.ast.proofs.Lists.{item_here, part_left}
use Rattle.dependence.specs.Plan as plan
use Rattle.codegen.specs.Plain.{plain_arms, plain_block, plain_node}
use Rattle.codegen.specs.Process.{is_last_stop}
use Rattle.codegen.proofs.Stops.{last_told}

-- ---- nodes

pub node_here : (ns : List Node) (i : ℕ) (n : Node) → i < length ns → n ≡ get_or ns i n → plain_block (block_view (drop i ns)) ≡ plan.then_node (plain_node (node_of n)) (plain_block (block_view (drop (i + 1) ns)))
node_here ns i n l e = ap (λ (ms : List Node). plain_block (block_view ms)) (item_here ns i n l e)

-- the nodes from this one on aren't a STOP and the END that follows it
pub goes_on : (ns : List Node) (i : ℕ) (n : Node) → i < length ns → n ≡ get_or ns i n → false ≡ is_last_stop_of (block_view (take (length ns - i) (drop i ns))) → false ≡ is_last_stop (plain_node (node_of n)) (plain_block (block_view (drop (i + 1) ns)))
goes_on ns i n l e h = last_told false (node_of n) (block_view (drop (i + 1) ns)) (h ∙ ap (λ (ms : List Node). is_last_stop_of (block_view ms)) (part_left ns i ∙ item_here ns i n l e))

-- ---- an arm's parts

pub arm_here : (xs : List Arm) (i : ℕ) (a : Arm) (c : Option Expr) (ns : List Node) → i < length xs → a ≡ get_or xs i a → a.condition ≡ c → a.body.items ≡ ns
    → plain_arms (arms_tree (map arm_of (drop i xs))) ≡ plan.then_arm a.line (optional_term c) (plain_block (block_view ns)) (plain_arms (arms_tree (map arm_of (drop (i + 1) xs))))
arm_here xs i a c ns l e f g =
    let others = arms_tree (map arm_of (drop (i + 1) xs)) in
    ap plain_arms (
    ap (λ (as_list : List Arm). arms_tree (map arm_of as_list)) (item_here xs i a l e)
    ∙ ap (λ (n : ℕ). then_arm n (arm_of a).condition (arm_of a).body others) (line_of a)
    ∙ ap (λ (o : Option Term). then_arm a.line o (arm_of a).body others) (condition_of a ∙ ap optional_term f)
    ∙ ap (λ (b : Block). then_arm a.line (optional_term c) b others) (body_of a ∙ ap block_view g)
    )
