-- A program's tree as its text has it: without the numbers and places of references, the values of
-- constants, and what tells a call from an element.
use Rattle.std.specs.Prelude.{ℕ, List, map, option_map}
use Rattle.ast.specs.Spelling.{intrinsic_name}
use Rattle.ast.specs.Tree.{Ref, Term, Terms, parameter, element, call, parentheses, unary}
use Rattle.ast.specs.Tree.{binary, no_terms, then_term, Access, PrintItem, value_item}
use Rattle.ast.specs.Tree.{text_item, DoHead, Kind, assign, print, read, Node, plain, loop}
use Rattle.ast.specs.Tree.{choose, Block, no_nodes, then_node, Arms, no_arms, then_arm}

-- a reference by its name alone
abbrev pub ref_to : List ℕ → Ref
ref_to name = record { name = name; id = 0; cell = 0 }

abbrev mutual
  pub erased : Term → Term
  erased (parameter x n) = element (ref_to x) no_terms
  erased (element r es) = element (ref_to r.name) (all_erased es)
  erased (call f es) = element (ref_to (intrinsic_name f)) (all_erased es)
  erased (parentheses e) = parentheses (erased e)
  erased (unary p e) = unary p (erased e)
  erased (binary o a b) = binary o (erased a) (erased b)
  erased e = e

  pub all_erased : Terms → Terms
  all_erased no_terms = no_terms
  all_erased (then_term e es) = then_term (erased e) (all_erased es)

abbrev pub access_erased : Access → Access
access_erased a = record { ref = ref_to a.ref.name; subscripts = all_erased a.subscripts }

abbrev pub item_erased : PrintItem → PrintItem
item_erased (value_item e) = value_item (erased e)
item_erased (text_item t) = text_item t

abbrev pub kind_erased : Kind → Kind
kind_erased (assign a e) = assign (access_erased a) (erased e)
kind_erased (print items) = print (map item_erased items)
kind_erased (read elements) = read (map access_erased elements)
kind_erased k = k

-- a DO as its text has it
abbrev pub head_erased : DoHead → DoHead
head_erased h = record {
  terminal = h.terminal;
  variable = ref_to h.variable.name;
  first = erased h.first;
  last = erased h.last;
  step = option_map erased h.step;
}

abbrev mutual
  pub node_erased : Node → Node
  node_erased (plain s) =
      plain (record { line = s.line; label = s.label; kind = kind_erased s.kind })
  node_erased (loop l h b) = loop l (head_erased h) (block_erased b)
  node_erased (choose a) = choose (arms_erased a)

  -- a program's statements as the text has them
  pub block_erased : Block → Block
  block_erased no_nodes = no_nodes
  block_erased (then_node n b) = then_node (node_erased n) (block_erased b)

  pub arms_erased : Arms → Arms
  arms_erased no_arms = no_arms
  arms_erased (then_arm l c b more) =
      then_arm l (option_map erased c) (block_erased b) (arms_erased more)
