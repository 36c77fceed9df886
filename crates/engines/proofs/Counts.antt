-- A program has no more loops than its text has statements.
use Rattle.std.proofs.Common.{◌≡◌, ℕ, ◌+◌, ◌≤◌, List, length, inl, inr, Some, None, refl, ap, ap₂, ◌∙◌, arith}
use Rattle.std.proofs.lemmas.List.{length-append}
use Rattle.ast.specs.Program.{ProgramTree, loops_in, loops_in_node, loops_in_arms}
use Rattle.ast.specs.Tree.{Statement, Node, plain, loop, choose, Block, no_nodes, then_node, Arms, no_arms, then_arm}
use Rattle.profile_check.specs.Erasure.{block_erased, node_erased, arms_erased}
use Rattle.profile_check.specs.Layout.{Lays, LaysNode, LaysIf, LaysArms, LaysLogicalIf}
use Rattle.profile_check.specs.Reads.{Reads}

mutual
  erased_node : (n : Node) → loops_in_node (node_erased n) ≡ loops_in_node n
  erased_node (plain s) = refl
  erased_node (loop l h b) = ap (λ k. 1 + k) (erased_block b)
  erased_node (choose a) = erased_arms a

  erased_block : (b : Block) → loops_in (block_erased b) ≡ loops_in b
  erased_block no_nodes = refl
  erased_block (then_node n b) = ap₂ (λ i k. i + k) (erased_node n) (erased_block b)

  erased_arms : (a : Arms) → loops_in_arms (arms_erased a) ≡ loops_in_arms a
  erased_arms no_arms = refl
  erased_arms (then_arm l c b more) = ap₂ (λ i k. i + k) (erased_block b) (erased_arms more)

mutual
  few_in_node : (n : Node) (ss : List Statement) → LaysNode n ss → loops_in_node n ≤ length ss
  few_in_node (plain s) ss h = omega arith
  few_in_node (loop l d b) ss h =
      let few = few_in b h.1 h.3 in
      let size = ap length h.2 in
      omega (arith, few, size)
  few_in_node (choose a) ss (inl h) = few_in_if a ss h
  few_in_node (choose a) ss (inr h) = few_in_logical a ss h

  few_in : (b : Block) (ss : List Statement) → Lays b ss → loops_in b ≤ length ss
  few_in no_nodes ss h = omega arith
  few_in (then_node n b) ss h =
      let one = few_in_node n h.0 h.3 in
      let others = few_in b h.1 h.4 in
      let size = ap length h.2 ∙ length-append h.0 h.1 in
      omega (arith, one, others, size)

  few_in_if : (a : Arms) (ss : List Statement) → LaysIf a ss → loops_in_arms a ≤ length ss
  few_in_if no_arms ss h = absurd h
  few_in_if (then_arm l None b more) ss h = absurd h
  few_in_if (then_arm l (Some c) b more) ss h =
      let first = few_in b h.1 h.4 in
      let others = few_in_arms more h.2 h.5 in
      let size = ap length h.3 in
      let sum = length-append h.1 h.2 in
      omega (arith, first, others, size, sum)

  few_in_arms : (a : Arms) (ss : List Statement) → LaysArms a ss → loops_in_arms a ≤ length ss
  few_in_arms no_arms ss h = omega arith
  few_in_arms (then_arm l c b more) ss h =
      let first = few_in b h.1 h.4 in
      let others = few_in_arms more h.2 h.5 in
      let size = ap length h.3 in
      let sum = length-append h.1 h.2 in
      omega (arith, first, others, size, sum)

  few_in_logical : (a : Arms) (ss : List Statement) → LaysLogicalIf a ss → loops_in_arms a ≤ length ss
  few_in_logical no_arms ss h = absurd h
  few_in_logical (then_arm l None b more) ss h = absurd h
  few_in_logical (then_arm l (Some c) no_nodes more) ss h = absurd h
  few_in_logical (then_arm l (Some c) (then_node (plain s) no_nodes) no_arms) ss h = omega arith
  few_in_logical (then_arm l (Some c) (then_node (plain s) no_nodes) (then_arm k d b more)) ss h = absurd h
  few_in_logical (then_arm l (Some c) (then_node (plain s) (then_node m b)) more) ss h = absurd h
  few_in_logical (then_arm l (Some c) (then_node (loop k d r) b) more) ss h = absurd h
  few_in_logical (then_arm l (Some c) (then_node (choose r) b) more) ss h = absurd h

pub few_loops : (text : List ℕ) (program : ProgramTree) → Reads text program → loops_in program.block ≤ program.count
few_loops text program reads =
    let few = few_in (block_erased program.block) reads.statements reads.tree.laid in
    let same = erased_block program.block in
    let count = reads.tree.count in
    omega (arith, few, same, count)
