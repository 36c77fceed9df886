-- Each loop of a program is that of its DO and its range.
use Rattle.std.proofs.Common.{◌≡◌, sym, refl, ℕ, zero, suc, List, [], ◌∷◌, length, subst}
use Rattle.std.specs.Prelude.{◌+◌, ◌++◌, Option, Some, None}
use Rattle.ast.specs.Tree.{Node, plain, loop, choose, Block, no_nodes, then_node, Arms, no_arms, then_arm}
use Rattle.loop_tree.specs.Collecting.{Collected, after_block, no_collected, loops_in}
use Rattle.loop_tree.specs.Loops.{AreWhole, IsWhole, Loop, arms_loops, block_loops, node_loops}
use Rattle.loop_tree.specs.Occurrences.{node_lines, block_lines}
use Rattle.loop_tree.proofs.Gathered.{loops_gathered}

none_whole : AreWhole []
none_whole zero l e = cc
none_whole (suc n) l e = cc

one_more : (m : Loop) (ls : List Loop) → IsWhole m → AreWhole ls → AreWhole (m ∷ ls)
one_more m ls h k zero l e = cc
one_more m ls h k (suc zero) l e = let d : m ≡ l = cc in subst (λ (x : Loop). IsWhole x) d h
one_more m ls h k (suc (suc n)) l e = k (suc n) l e

more : (ls ms : List Loop) → AreWhole ls → AreWhole ms → AreWhole (ls ++ ms)
more [] ms h k = k
more (l ∷ ls) ms h k = one_more l (ls ++ ms) (h 1 l refl) (more ls ms (rest l ls h) k)
  where
    rest : (m : Loop) (ls : List Loop) → AreWhole (m ∷ ls) → AreWhole ls
    rest m ls h zero l e = cc
    rest m ls h (suc n) l e = h (suc (suc n)) l e

mutual
  node_whole : (around : Option ℕ) (k n : ℕ) (x : Node) → AreWhole (node_loops around k n x)
  node_whole around k n (plain s) = none_whole
  node_whole around k n (loop l h b) = one_more _ (block_loops (Some (k + 1)) (k + 1) (n + 1) b) refl (block_whole (Some (k + 1)) (k + 1) (n + 1) b)
  node_whole around k n (choose a) = arms_whole around k (n + 1) a

  block_whole : (around : Option ℕ) (k n : ℕ) (b : Block) → AreWhole (block_loops around k n b)
  block_whole around k n no_nodes = none_whole
  block_whole around k n (then_node x b) =
      more (node_loops around k n x) (block_loops around (k + length (node_loops around k n x)) (n + length (node_lines x)) b)
      (node_whole around k n x)
      (block_whole around (k + length (node_loops around k n x)) (n + length (node_lines x)) b)

  arms_whole : (around : Option ℕ) (k n : ℕ) (a : Arms) → AreWhole (arms_loops around k n a)
  arms_whole around k n no_arms = none_whole
  arms_whole around k n (then_arm l c b rest) =
      more (block_loops around k n b) (arms_loops around (k + length (block_loops around k n b)) (n + length (block_lines b)) rest)
      (block_whole around k n b)
      (arms_whole around (k + length (block_loops around k n b)) (n + length (block_lines b)) rest)

pub loops_whole : (c : Collected) (b : Block) → c ≡ after_block None b no_collected → AreWhole (loops_in c)
loops_whole c b e = subst (λ (ls : List Loop). AreWhole ls) (sym (loops_gathered c b e)) (block_whole None 0 0 b)
