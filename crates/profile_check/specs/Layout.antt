-- How a tree of nested statements lays out as the statements of a text, one after another.
use Rattle.std.specs.Prelude.{◌≡◌, ◌⊎◌, ℕ, Bool, true, false, List}
use Rattle.std.specs.Prelude.{[], ◌∷◌, ◌++◌, Option, Some, None}
use Rattle.ast.specs.Tree.{Term, Statement, Kind, do_loop, block_if, else_if}
use Rattle.ast.specs.Tree.{else_arm, end_if, logical_if, Node, plain, loop, choose}
use Rattle.ast.specs.Tree.{Block, no_nodes, then_node, Arms, no_arms, then_arm}

-- a statement that holds no others and is no part of an IF block
abbrev pub stands_alone : Kind → Bool
stands_alone (do_loop h) = false
stands_alone (block_if c) = false
stands_alone (else_if c) = false
stands_alone else_arm = false
stands_alone end_if = false
stands_alone (logical_if c k) = false
stands_alone _ = true

-- the last of the statements has the label: it is the terminal statement of a range
abbrev pub EndsWith : ℕ → List Statement → Type 0
EndsWith label ss =
    (front : List Statement) × (s : Statement) × (ss ≡ front ++ s ∷ []) × (s.label ≡ Some label)

-- the head of an arm: ELSE IF with its condition, or ELSE
abbrev pub arm_head : Option Term → Kind
arm_head None = else_arm
arm_head (Some c) = else_if c

abbrev mutual
  -- a tree of statements lays out as these, one after another
  pub Lays : Block → List Statement → Type 0
  Lays no_nodes ss = ss ≡ []
  Lays (then_node n b) ss =
      (u : List Statement) × (v : List Statement) × (ss ≡ u ++ v) × LaysNode n u × Lays b v

  pub LaysNode : Node → List Statement → Type 0
  LaysNode (plain s) ss = (ss ≡ s ∷ []) × (stands_alone s.kind ≡ true)
  LaysNode (loop line h b) ss =
      (label : Option ℕ) × (range : List Statement)
      × (ss ≡ record { line = line; label = label; kind = do_loop h } ∷ range)
      × Lays b range × EndsWith h.terminal range
  LaysNode (choose a) ss = LaysIf a ss ⊎ LaysLogicalIf a ss

  -- a block IF: its first arm, and those behind it
  pub LaysIf : Arms → List Statement → Type 0
  LaysIf (then_arm line (Some c) b more) ss =
      (label : Option ℕ) × (u : List Statement) × (v : List Statement)
      × (ss ≡ record { line = line; label = label; kind = block_if c } ∷ (u ++ v))
      × Lays b u × LaysArms more v
  LaysIf _ ss = ⊥

  -- the arms behind the first, and END IF
  pub LaysArms : Arms → List Statement → Type 0
  LaysArms no_arms ss =
      (line : ℕ) × (label : Option ℕ)
      × (ss ≡ record { line = line; label = label; kind = end_if } ∷ [])
  LaysArms (then_arm line c b more) ss =
      (label : Option ℕ) × (u : List Statement) × (v : List Statement)
      × (ss ≡ record { line = line; label = label; kind = arm_head c } ∷ (u ++ v))
      × Lays b u × LaysArms more v

  -- a logical IF: one arm with one statement, of the same line
  pub LaysLogicalIf : Arms → List Statement → Type 0
  LaysLogicalIf (then_arm line (Some c) (then_node (plain s) no_nodes) no_arms) ss =
      (label : Option ℕ)
      × (ss ≡ record { line = line; label = label; kind = logical_if c s.kind } ∷ [])
      × (s.line ≡ line) × (s.label ≡ None)
  LaysLogicalIf _ ss = ⊥
