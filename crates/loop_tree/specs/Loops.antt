-- The loops of a program in the order of the text, numbered from 1.
use Rattle.std.specs.Prelude.{◌≡◌, ℕ, ℤ, zero, suc, ◌+◌, Bool, ◌==◌, if◌then◌else◌, List}
use Rattle.std.specs.Prelude.{[], ◌∷◌, ◌++◌, length, Option, Some, None, slice_get}
use Rattle.std.specs.List.{list_any}
use Rattle.ast.specs.Tree.{Ref, Terms, no_terms, then_term, DoHead, Kind}
use Rattle.ast.specs.Tree.{assign, read, Access, Node, plain, loop, choose}
use Rattle.ast.specs.Tree.{Block, no_nodes, then_node, Arms, no_arms, then_arm}
use Rattle.loop_tree.specs.Constants.{step_of, trips_of}
use Rattle.loop_tree.specs.Occurrences.{Occurrence, node_lines, block_lines, block_occurrences}

-- A scalar is told by its cell, the place of its name among the program's symbols.
abbrev pub has_cell : ℕ → List Ref → Bool
has_cell c rs = list_any (λ (r : Ref). r.cell == c) rs

-- scalars with one more, each once, in the order in which they come
abbrev pub with_scalar : List Ref → Ref → List Ref
with_scalar rs r = if has_cell r.cell rs then rs else rs ++ r ∷ []

-- scalars with a name that is given a value; an array's element is none
abbrev pub with_named : List Ref → Ref → Terms → List Ref
with_named rs r no_terms = with_scalar rs r
with_named rs r (then_term e es) = rs

-- with what an assignment or a READ gives a value, where that is a scalar
abbrev pub with_target : List Ref → Access → List Ref
with_target rs a = with_named rs a.ref a.subscripts

-- with those of several elements and scalars
abbrev pub with_targets : List Ref → List Access → List Ref
with_targets rs [] = rs
with_targets rs (a ∷ more) = with_targets (with_target rs a) more

-- with those of a statement that holds no others
abbrev pub with_kind : List Ref → Kind → List Ref
with_kind rs (assign a e) = with_target rs a
with_kind rs (read elements) = with_targets rs elements
with_kind rs _ = rs

-- scalars with those that statements give values, variables of inner loops among them
abbrev mutual
  pub with_node : List Ref → Node → List Ref
  with_node rs (plain s) = with_kind rs s.kind
  with_node rs (loop l h b) = with_block (with_scalar rs h.variable) b
  with_node rs (choose a) = with_arms rs a

  pub with_block : List Ref → Block → List Ref
  with_block rs no_nodes = rs
  with_block rs (then_node n b) = with_block (with_node rs n) b

  pub with_arms : List Ref → Arms → List Ref
  with_arms rs no_arms = rs
  with_arms rs (then_arm l c b more) = with_arms (with_block rs b) more

-- A loop: the number of the loop around it; the number of its DO among the statements; its line;
-- what its DO says; its range; its step where that is constant, and how often its range is gone
-- through where that is known; the references of its range in order; the scalars that its range
-- gives values, each once, by its first definition.
pub record Loop : Type 0 where
  pub around : Option ℕ
  pub statement : ℕ
  pub line : ℕ
  pub head : DoHead
  pub body : Block
  pub step : Option ℤ
  pub trips : Option ℕ
  pub references : List Occurrence
  pub assigned : List Ref

-- the loop of a DO that is statement n, in a loop or in none
abbrev pub loop_at : Option ℕ → ℕ → ℕ → DoHead → Block → Loop
loop_at around n line h b = record {
  around = around;
  statement = n;
  line = line;
  head = h;
  body = b;
  step = step_of h;
  trips = trips_of h;
  references = block_occurrences (n + 1) b;
  assigned = with_block [] b;
}

-- A loop is that of its DO and its range.
abbrev pub IsWhole : Loop → Type 0
IsWhole l = l ≡ loop_at l.around l.statement l.line l.head l.body

-- The loops of statements that are numbered from n on, in a loop or in none; k loops come before.
abbrev mutual
  pub node_loops : Option ℕ → ℕ → ℕ → Node → List Loop
  node_loops around k n (plain s) = []
  node_loops around k n (loop l h b) =
      loop_at around n l h b ∷ block_loops (Some (k + 1)) (k + 1) (n + 1) b
  node_loops around k n (choose a) = arms_loops around k (n + 1) a

  pub block_loops : Option ℕ → ℕ → ℕ → Block → List Loop
  block_loops around k n no_nodes = []
  block_loops around k n (then_node x b) =
      node_loops around k n x
      ++ block_loops around (k + length (node_loops around k n x)) (n + length (node_lines x)) b

  pub arms_loops : Option ℕ → ℕ → ℕ → Arms → List Loop
  arms_loops around k n no_arms = []
  arms_loops around k n (then_arm l c b more) =
      block_loops around k n b
      ++ arms_loops around (k + length (block_loops around k n b)) (n + length (block_lines b)) more

-- the loops of a program, in the order of the text
abbrev pub loops_of : Block → List Loop
loops_of b = block_loops None 0 0 b

-- the loop of a number, from 1
abbrev pub loop_numbered : List Loop → ℕ → Option Loop
loop_numbered ls zero = None
loop_numbered ls (suc n) = slice_get ls n

-- each of these loops is so
abbrev pub AreWhole : List Loop → Type 0
AreWhole ls = (n : ℕ) (l : Loop) → loop_numbered ls n ≡ Some l → IsWhole l

-- the loop around a loop, if it is in one
abbrev pub loop_around : List Loop → Loop → Option Loop
loop_around ls l = by_number l.around
  where
    by_number : Option ℕ → Option Loop
    by_number None = None
    by_number (Some n) = loop_numbered ls n
