-- The parts of a program in order of evaluation: operands from left to right; the subscripts of an
-- element before the element; the right side of an assignment before its target; of a DO its
-- parameters, its variable, then its range; of an IF its first condition, its first arm, the second
-- condition, and so on. A program's references are numbered in this order.
use Rattle.std.specs.Prelude.{ℕ, ◌+◌, Bool, true, ◌&&◌, ◌==◌, List}
use Rattle.std.specs.Prelude.{[], ◌∷◌, ◌++◌, Option, Some, None, map}
use Rattle.ast.specs.Tree.{Ref, Term, Terms, element, call, parentheses, unary, binary}
use Rattle.ast.specs.Tree.{no_terms, then_term, accessed, PrintItem, value_item, text_item}
use Rattle.ast.specs.Tree.{DoHead, Kind, assign, print, read, Node, plain, loop}
use Rattle.ast.specs.Tree.{choose, Block, no_nodes, then_node, Arms, no_arms, then_arm}

abbrev mutual
  pub term_references : Term → List Ref
  term_references (element r es) = terms_references es ++ r ∷ []
  term_references (call f es) = terms_references es
  term_references (parentheses e) = term_references e
  term_references (unary p e) = term_references e
  term_references (binary o a b) = term_references a ++ term_references b
  term_references _ = []

  pub terms_references : Terms → List Ref
  terms_references no_terms = []
  terms_references (then_term e es) = term_references e ++ terms_references es

abbrev pub optional : Option Term → List Term
optional None = []
optional (Some e) = e ∷ []

abbrev pub item_expressions : PrintItem → List Term
item_expressions (value_item e) = e ∷ []
item_expressions (text_item t) = []

abbrev pub items_expressions : List PrintItem → List Term
items_expressions [] = []
items_expressions (i ∷ more) = item_expressions i ++ items_expressions more

-- the expressions of a statement of a program, an element that is given a value among them
abbrev pub kind_expressions : Kind → List Term
kind_expressions (assign a e) = e ∷ accessed a ∷ []
kind_expressions (print items) = items_expressions items
kind_expressions (read elements) = map accessed elements
kind_expressions _ = []

abbrev pub head_expressions : DoHead → List Term
head_expressions h = h.first ∷ h.last ∷ optional h.step ++ element h.variable no_terms ∷ []

abbrev mutual
  pub node_expressions : Node → List Term
  node_expressions (plain s) = kind_expressions s.kind
  node_expressions (loop l h b) = head_expressions h ++ block_expressions b
  node_expressions (choose a) = arms_expressions a

  -- the expressions of a block, in order of evaluation
  pub block_expressions : Block → List Term
  block_expressions no_nodes = []
  block_expressions (then_node n b) = node_expressions n ++ block_expressions b

  pub arms_expressions : Arms → List Term
  arms_expressions no_arms = []
  arms_expressions (then_arm l c b more) =
      optional c ++ block_expressions b ++ arms_expressions more

abbrev pub expressions_references : List Term → List Ref
expressions_references [] = []
expressions_references (e ∷ es) = term_references e ++ expressions_references es

-- the references of a block, in order of evaluation
abbrev pub block_references : Block → List Ref
block_references b = expressions_references (block_expressions b)

-- references have the numbers from n on, in order
abbrev pub are_numbered : ℕ → List Ref → Bool
are_numbered n [] = true
are_numbered n (r ∷ rs) = (r.id == n) && are_numbered (n + 1) rs
