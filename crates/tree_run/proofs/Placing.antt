-- A program whose references are placed is placed in each of its parts.
use Rattle.std.proofs.Common.{◌≡◌, List, [], ◌∷◌, ◌++◌, true}
use Rattle.std.specs.List.{list_all}
use Rattle.std.proofs.lemmas.Bool.{and_parts}
use Rattle.ast.specs.Program.{are_placed, is_placed}
use Rattle.ast.specs.References.{term_references, terms_references, expressions_references, optional, head_expressions, block_expressions, arms_expressions, node_expressions}
use Rattle.ast.specs.Symbols.{Symbol}
use Rattle.ast.specs.Tree.{Term, Terms, constant, truth, parameter, element, call, parentheses, unary, binary, no_terms, then_term, Node, plain, loop, choose, Block, no_nodes, then_node, Arms, no_arms, then_arm}
use Rattle.ast.proofs.Lists.{all_parts}
use Rattle.tree_run.specs.Placed.{AllPlaced, PlacedTerm, PlacedTerms, PlacedNode, PlacedBlock, PlacedArms}

mutual
  placed_term : (ss : List Symbol) (e : Term) → list_all (λ r. is_placed ss r) (term_references e) ≡ true → PlacedTerm ss e
  placed_term ss (element r es) h =
      let k = all_parts (λ r. is_placed ss r) (terms_references es) (r ∷ []) h in
      ((and_parts (is_placed ss r) true k.1).0, placed_terms ss es k.0)
  placed_term ss (call f es) h = placed_terms ss es h
  placed_term ss (parentheses e) h = placed_term ss e h
  placed_term ss (unary p e) h = placed_term ss e h
  placed_term ss (binary o a b) h = let k = all_parts (λ r. is_placed ss r) (term_references a) (term_references b) h in (placed_term ss a k.0, placed_term ss b k.1)
  placed_term ss (constant n) h = tt
  placed_term ss (truth b) h = tt
  placed_term ss (parameter x n) h = tt

  placed_terms : (ss : List Symbol) (es : Terms) → list_all (λ r. is_placed ss r) (terms_references es) ≡ true → PlacedTerms ss es
  placed_terms ss no_terms h = tt
  placed_terms ss (then_term e es) h = let k = all_parts (λ r. is_placed ss r) (term_references e) (terms_references es) h in (placed_term ss e k.0, placed_terms ss es k.1)

all_placed : (ss : List Symbol) (es : List Term) → list_all (λ r. is_placed ss r) (expressions_references es) ≡ true → AllPlaced ss es
all_placed ss [] h = tt
all_placed ss (e ∷ es) h = let k = all_parts (λ r. is_placed ss r) (term_references e) (expressions_references es) h in (placed_term ss e k.0, all_placed ss es k.1)

parted : (ss : List Symbol) (xs ys : List Term) → AllPlaced ss (xs ++ ys) → AllPlaced ss xs × AllPlaced ss ys
parted ss [] ys h = (tt, h)
parted ss (x ∷ xs) ys h = let k = parted ss xs ys h.1 in ((h.0, k.0), k.1)

mutual
  placed_node : (ss : List Symbol) (n : Node) → AllPlaced ss (node_expressions n) → PlacedNode ss n
  placed_node ss (plain s) h = h
  placed_node ss (loop l d b) h = let k = parted ss (head_expressions d) (block_expressions b) h in (k.0, placed_block ss b k.1)
  placed_node ss (choose a) h = placed_arms ss a h

  placed_block : (ss : List Symbol) (b : Block) → AllPlaced ss (block_expressions b) → PlacedBlock ss b
  placed_block ss no_nodes h = tt
  placed_block ss (then_node n b) h = let k = parted ss (node_expressions n) (block_expressions b) h in (placed_node ss n k.0, placed_block ss b k.1)

  placed_arms : (ss : List Symbol) (a : Arms) → AllPlaced ss (arms_expressions a) → PlacedArms ss a
  placed_arms ss no_arms h = tt
  placed_arms ss (then_arm l c b more) h =
      let k = parted ss (optional c ++ block_expressions b) (arms_expressions more) h in
      let m = parted ss (optional c) (block_expressions b) k.0 in
      (m.0, placed_block ss b m.1, placed_arms ss more k.1)

pub placed : (ss : List Symbol) (b : Block) → are_placed ss b ≡ true → PlacedBlock ss b
placed ss b h = placed_block ss b (all_placed ss (block_expressions b) h)
