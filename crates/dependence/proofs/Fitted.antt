-- What the code tells of a range is what definitions say of it.
use Rattle.std.proofs.Common.{◌≡◌, ◌∙◌, ap, sym, refl, ℕ, List, [], ◌∷◌}
use Rattle.std.specs.Prelude.{◌+◌, ◌++◌, ◌&&◌, ◌||◌, length, map, Bool, true, false, Option, Some, None}
use Rattle.std.specs.List.{list_all, list_any}
use Rattle.std.proofs.Math.Bool.{or-false}
use Rattle.ast.specs.Tree.{Ref, Node, plain, loop, choose, Block, no_nodes, then_node, Arms, no_arms, then_arm}
use Rattle.dependence.specs.Kept.{is_read, node_kinds, block_kinds, arms_kinds, block_reads, block_variables}
use Rattle.loop_tree.specs.Loops.{Loop, node_loops, block_loops, arms_loops}
use Rattle.loop_tree.specs.Occurrences.{node_lines, block_lines}
use Rattle.dependence.specs.Fitting.{node_reads, reads, arms_read, node_hides, hide_inner, arms_hide}
use Rattle.dependence.specs.Hiding.{has_name}

any_of_two : {X : Type 0} (p : X → Bool) (xs ys : List X) → list_any p (xs ++ ys) ≡ (list_any p xs || list_any p ys)
any_of_two p [] ys = refl
any_of_two p (x ∷ xs) ys = by (p x) (any_of_two p xs ys)
  where
    by : (b : Bool) → list_any p (xs ++ ys) ≡ (list_any p xs || list_any p ys) → (b || list_any p (xs ++ ys)) ≡ ((b || list_any p xs) || list_any p ys)
    by true h = refl
    by false h = h

all_of_two : {X : Type 0} (p : X → Bool) (xs ys : List X) → list_all p (xs ++ ys) ≡ (list_all p xs && list_all p ys)
all_of_two p [] ys = refl
all_of_two p (x ∷ xs) ys = by (p x) (all_of_two p xs ys)
  where
    by : (b : Bool) → list_all p (xs ++ ys) ≡ (list_all p xs && list_all p ys) → (b && list_all p (xs ++ ys)) ≡ ((b && list_all p xs) && list_all p ys)
    by true h = h
    by false h = refl

mutual
  node_read : (n : Node) → list_any is_read (node_kinds n) ≡ node_reads n
  node_read (plain s) = or-false (is_read s.kind)
  node_read (loop l h b) = block_read b
  node_read (choose a) = arms_are_read a

  block_read : (b : Block) → list_any is_read (block_kinds b) ≡ reads b
  block_read no_nodes = refl
  block_read (then_node n b) = any_of_two is_read (node_kinds n) (block_kinds b) ∙ ap (λ x. x || list_any is_read (block_kinds b)) (node_read n) ∙ ap (λ x. node_reads n || x) (block_read b)

  arms_are_read : (a : Arms) → list_any is_read (arms_kinds a) ≡ arms_read a
  arms_are_read no_arms = refl
  arms_are_read (then_arm l c b more) = any_of_two is_read (block_kinds b) (arms_kinds more) ∙ ap (λ x. x || list_any is_read (arms_kinds more)) (block_read b) ∙ ap (λ x. reads b || x) (arms_are_read more)

pub has_read : (b : Block) → reads b ≡ block_reads b
has_read b = sym (block_read b)

module _ (names : List (List ℕ)) where
  abbrev is_named : Loop → Bool
  is_named l = has_name names l.head.variable.name

  mutual
    node_named : (around : Option ℕ) (k n : ℕ) (x : Node) → list_all is_named (node_loops around k n x) ≡ node_hides names x
    node_named around k n (plain s) = refl
    node_named around k n (loop l h b) = ap (λ y. has_name names h.variable.name && y) (block_named (Some (k + 1)) (k + 1) (n + 1) b)
    node_named around k n (choose a) = arms_named around k (n + 1) a

    block_named : (around : Option ℕ) (k n : ℕ) (b : Block) → list_all is_named (block_loops around k n b) ≡ hide_inner names b
    block_named around k n no_nodes = refl
    block_named around k n (then_node x b) =
        all_of_two is_named (node_loops around k n x) (block_loops around (k + length (node_loops around k n x)) (n + length (node_lines x)) b)
        ∙ ap (λ y. y && list_all is_named (block_loops around (k + length (node_loops around k n x)) (n + length (node_lines x)) b)) (node_named around k n x)
        ∙ ap (λ y. node_hides names x && y) (block_named around (k + length (node_loops around k n x)) (n + length (node_lines x)) b)

    arms_named : (around : Option ℕ) (k n : ℕ) (a : Arms) → list_all is_named (arms_loops around k n a) ≡ arms_hide names a
    arms_named around k n no_arms = refl
    arms_named around k n (then_arm l c b more) =
        all_of_two is_named (block_loops around k n b) (arms_loops around (k + length (block_loops around k n b)) (n + length (block_lines b)) more)
        ∙ ap (λ y. y && list_all is_named (arms_loops around (k + length (block_loops around k n b)) (n + length (block_lines b)) more)) (block_named around k n b)
        ∙ ap (λ y. hide_inner names b && y) (arms_named around (k + length (block_loops around k n b)) (n + length (block_lines b)) more)

  of_variables : (ls : List Loop) → list_all is_named ls ≡ list_all (λ (r : Ref). has_name names r.name) (map (λ (l : Loop). l.head.variable) ls)
  of_variables [] = refl
  of_variables (l ∷ ls) = ap (λ y. has_name names l.head.variable.name && y) (of_variables ls)

  pub hides_inner : (b : Block) → hide_inner names b ≡ list_all (λ (r : Ref). has_name names r.name) (block_variables b)
  hides_inner b = sym (block_named None 0 0 b) ∙ of_variables (block_loops None 0 0 b)
