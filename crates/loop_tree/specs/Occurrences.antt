-- The references of a program, each with the statement that it belongs to. The statements are a
-- program's nodes, numbered from 0 as the text has them: a DO with its parameters and its variable,
-- an IF with the conditions of all its arms; what stands in a range or in an arm is a statement of
-- its own, so also the statement of a logical IF.
use Rattle.std.specs.Prelude.{ℕ, ◌+◌, ◌-◌, nat_le, slice_get, if◌then◌else◌, Bool, true}
use Rattle.std.specs.Prelude.{false, List, [], ◌∷◌, ◌++◌, length, Option, Some, None}
use Rattle.ast.specs.Tree.{Ref, Term, Terms, element, call, parentheses, unary, binary}
use Rattle.ast.specs.Tree.{no_terms, then_term, Access, PrintItem, value_item, text_item}
use Rattle.ast.specs.Tree.{DoHead, Kind, assign, print, read, Node, plain, loop}
use Rattle.ast.specs.Tree.{choose, Block, no_nodes, then_node, Arms, no_arms, then_arm}

-- a place where a variable is read or assigned: its subscripts, none of a scalar, and the number of
-- the statement
pub record Occurrence : Type 0 where
  pub ref : Ref
  pub subscripts : Terms
  pub defines : Bool
  pub statement : ℕ

-- a reference that is read in statement n
abbrev pub used_at : ℕ → Ref → Terms → Occurrence
used_at n r es = record { ref = r; subscripts = es; defines = false; statement = n }

-- a reference that is given a value in statement n
abbrev pub defined_at : ℕ → Ref → Terms → Occurrence
defined_at n r es = record { ref = r; subscripts = es; defines = true; statement = n }

-- the references of an expression, in order of evaluation
abbrev mutual
  pub term_occurrences : ℕ → Term → List Occurrence
  term_occurrences n (element r es) = terms_occurrences n es ++ used_at n r es ∷ []
  term_occurrences n (call f es) = terms_occurrences n es
  term_occurrences n (parentheses e) = term_occurrences n e
  term_occurrences n (unary p e) = term_occurrences n e
  term_occurrences n (binary o a b) = term_occurrences n a ++ term_occurrences n b
  term_occurrences n _ = []

  pub terms_occurrences : ℕ → Terms → List Occurrence
  terms_occurrences n no_terms = []
  terms_occurrences n (then_term e es) = term_occurrences n e ++ terms_occurrences n es

-- those of an expression that may be absent
abbrev pub optional_occurrences : ℕ → Option Term → List Occurrence
optional_occurrences n None = []
optional_occurrences n (Some e) = term_occurrences n e

-- an element that is given a value: its subscripts are evaluated before it
abbrev pub target_occurrences : ℕ → Access → List Occurrence
target_occurrences n a = terms_occurrences n a.subscripts ++ defined_at n a.ref a.subscripts ∷ []

-- those of elements that are given values, one after another
abbrev pub targets_occurrences : ℕ → List Access → List Occurrence
targets_occurrences n [] = []
targets_occurrences n (a ∷ more) = target_occurrences n a ++ targets_occurrences n more

-- those of an item of a PRINT
abbrev pub item_occurrences : ℕ → PrintItem → List Occurrence
item_occurrences n (value_item e) = term_occurrences n e
item_occurrences n (text_item t) = []

-- those of a PRINT's items
abbrev pub items_occurrences : ℕ → List PrintItem → List Occurrence
items_occurrences n [] = []
items_occurrences n (i ∷ more) = item_occurrences n i ++ items_occurrences n more

-- those of statement n, which holds no others
abbrev pub kind_occurrences : ℕ → Kind → List Occurrence
kind_occurrences n (assign a e) = term_occurrences n e ++ target_occurrences n a
kind_occurrences n (print items) = items_occurrences n items
kind_occurrences n (read elements) = targets_occurrences n elements
kind_occurrences n _ = []

-- the parameters of a DO, then its variable
abbrev pub head_occurrences : ℕ → DoHead → List Occurrence
head_occurrences n h =
    term_occurrences n h.first ++ term_occurrences n h.last ++ optional_occurrences n h.step
    ++ defined_at n h.variable no_terms ∷ []

-- the line of an IF, which its first arm has
abbrev pub first_line : Arms → ℕ
first_line no_arms = 0
first_line (then_arm l c b more) = l

-- the lines of the statements, in order
abbrev mutual
  pub node_lines : Node → List ℕ
  node_lines (plain s) = s.line ∷ []
  node_lines (loop l h b) = l ∷ block_lines b
  node_lines (choose a) = first_line a ∷ arms_lines a

  pub block_lines : Block → List ℕ
  block_lines no_nodes = []
  block_lines (then_node n b) = node_lines n ++ block_lines b

  pub arms_lines : Arms → List ℕ
  arms_lines no_arms = []
  arms_lines (then_arm l c b more) = block_lines b ++ arms_lines more

-- The reference of a number, in a list of references that are numbered one after another.
abbrev pub numbered : List Occurrence → ℕ → Option Occurrence
numbered [] n = None
numbered (o ∷ os) n = if nat_le o.ref.id n then slice_get (o ∷ os) (n - o.ref.id) else None

-- The references of statements that are numbered from n on; of arms, whose IF has the number i.
abbrev mutual
  pub node_occurrences : ℕ → Node → List Occurrence
  node_occurrences n (plain s) = kind_occurrences n s.kind
  node_occurrences n (loop l h b) = head_occurrences n h ++ block_occurrences (n + 1) b
  node_occurrences n (choose a) = arms_occurrences n (n + 1) a

  pub block_occurrences : ℕ → Block → List Occurrence
  block_occurrences n no_nodes = []
  block_occurrences n (then_node x b) =
      node_occurrences n x ++ block_occurrences (n + length (node_lines x)) b

  pub arms_occurrences : ℕ → ℕ → Arms → List Occurrence
  arms_occurrences i n no_arms = []
  arms_occurrences i n (then_arm l c b more) =
      optional_occurrences i c ++ block_occurrences n b
      ++ arms_occurrences i (n + length (block_lines b)) more
