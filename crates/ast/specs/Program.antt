-- The program that a `Program` stands for, and what holds of each.
use Rattle.std.specs.Prelude.{ℕ, ◌+◌, List, Bool, true, false, ◌&&◌}
use Rattle.std.specs.Prelude.{nat_le, slice_get, Option, Some, None}
use Rattle.std.specs.List.{list_all}
use Rattle.ast.specs.References.{block_references, block_expressions}
use Rattle.ast.specs.Store.{same_name}
use Rattle.ast.specs.Symbols.{Sort, variable, fixed, Symbol}
use Rattle.ast.specs.Tree.{Ref, Node, plain, loop, choose, Block, no_nodes}
use Rattle.ast.specs.Tree.{then_node, Arms, no_arms, then_arm, depth}

-- a program: what its names stand for, its statements, and how many its text has
pub record ProgramTree : Type 0 where
  pub symbols : List Symbol
  pub block : Block
  pub count : ℕ

-- how many loops a program has
abbrev mutual
  pub loops_in_node : Node → ℕ
  loops_in_node (plain s) = 0
  loops_in_node (loop l h b) = 1 + loops_in b
  loops_in_node (choose a) = loops_in_arms a

  -- those of a block, at any depth
  pub loops_in : Block → ℕ
  loops_in no_nodes = 0
  loops_in (then_node n b) = loops_in_node n + loops_in b

  pub loops_in_arms : Arms → ℕ
  loops_in_arms no_arms = 0
  loops_in_arms (then_arm l c b more) = loops_in b + loops_in_arms more

abbrev pub is_variable : Sort → Bool
is_variable (variable ds) = true
is_variable (fixed n) = false

abbrev pub is_variable_named : List ℕ → Option Symbol → Bool
is_variable_named name None = false
is_variable_named name (Some s) = same_name s.name name && is_variable s.sort

-- each reference holds the place of its name among the symbols, where a variable stands
abbrev pub is_placed : List Symbol → Ref → Bool
is_placed symbols r = is_variable_named r.name (slice_get symbols r.cell)

-- each reference of a block is placed among the symbols
abbrev pub are_placed : List Symbol → Block → Bool
are_placed symbols b = list_all (λ r. is_placed symbols r) (block_references b)

-- the greatest depth of an expression
abbrev pub greatest_depth : ℕ
greatest_depth = 128

-- no expression of a block is deeper than that
abbrev pub are_shallow : Block → Bool
are_shallow b = list_all (λ e. nat_le (depth e) greatest_depth) (block_expressions b)
