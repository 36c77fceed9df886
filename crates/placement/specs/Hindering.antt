-- What is in the way of opening a loop that doesn't suit.
use Rattle.std.specs.Prelude.{◌≡◌, ◌+◌, ℕ, List, map, take, get_or, Option}
use Rattle.std.specs.Prelude.{Some, None, if◌then◌else◌, option_map}
use Rattle.ast.specs.Tree.{Statement, Node, plain, loop, choose, Block}
use Rattle.ast.specs.Tree.{no_nodes, then_node, Arms, no_arms, then_arm}
use Rattle.ast.specs.declared.name.Name.{Name}
use Rattle.dependence.specs.Hiding.{has_name}
use Rattle.dependence.specs.Kept.{is_read, most_events}
use Rattle.loop_tree.specs.Loops.{Loop}
use Rattle.placement.specs.Placement.{AreSources}
use Rattle.privatise.specs.Privates.{ArePrivate}

-- the first of two, if it is there
abbrev pub or_else : {A : Type 0} → Option A → Option A → Option A
or_else (Some x) other = Some x
or_else None other = other

-- the line of a statement that is a READ
abbrev pub line_of_read : Statement → Option ℕ
line_of_read s = if is_read s.kind then Some s.line else None

-- the line of the first READ among statements
abbrev mutual
  pub node_read : Node → Option ℕ
  node_read (plain s) = line_of_read s
  node_read (loop l h b) = first_read b
  node_read (choose a) = arms_read a

  pub first_read : Block → Option ℕ
  first_read no_nodes = None
  first_read (then_node n b) = or_else (node_read n) (first_read b)

  pub arms_read : Arms → Option ℕ
  arms_read no_arms = None
  arms_read (then_arm l c b more) = or_else (first_read b) (arms_read more)

-- a variable that isn't among names, and the line of its DO
abbrev pub unless_among : List (List ℕ) → List ℕ → ℕ → Option (List ℕ × ℕ)
unless_among names name line = if has_name names name then None else Some (name, line)

-- the first variable of a DO among statements that isn't among names, and the line of that DO
module _ (names : List (List ℕ)) where
  abbrev mutual
    pub node_shared : Node → Option (List ℕ × ℕ)
    node_shared (plain s) = None
    node_shared (loop l h b) = or_else (unless_among names h.variable.name l) (first_shared b)
    node_shared (choose a) = arms_shared a

    pub first_shared : Block → Option (List ℕ × ℕ)
    first_shared no_nodes = None
    first_shared (then_node n b) = or_else (node_shared n) (first_shared b)

    pub arms_shared : Arms → Option (List ℕ × ℕ)
    arms_shared no_arms = None
    arms_shared (then_arm l c b more) = or_else (first_shared b) (arms_shared more)

-- what the code has found, as letters and a line
abbrev pub shown : Option (Name × ℕ) → Option (List ℕ × ℕ)
shown found = option_map (λ (p : Name × ℕ). (p.0.letters, p.1)) found

-- The first variable of a loop inside that isn't private, if one is, with the line of its DO.
pub record IsFirstShared (l : Loop) (found : Option (Name × ℕ)) : Type 0 where
  pub names : List (List ℕ)
  pub privates : ArePrivate l names
  pub is : shown found ≡ first_shared names l.body

-- the line of a statement by its number
abbrev pub line_at : List ℕ → ℕ → ℕ
line_at lines statement = get_or lines statement 0

-- The lines of the first sources of a loop, one more than there may be events, or as many as there
-- are.
pub record AreFirstSources (lines : List ℕ) (l : Loop) (first : List ℕ) : Type 0 where
  pub sources : List ℕ
  pub all : AreSources l sources
  pub are : first ≡ map (line_at lines) (take (most_events + 1) sources)
