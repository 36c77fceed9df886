-- Scalars of which each iteration may have one of its own.
use Rattle.std.specs.Prelude.{◌≡◌, ℕ, Bool, true, false, ◌==◌, List, ◌∷◌, ◌++◌}
use Rattle.std.specs.List.{list_any}
use Rattle.ast.specs.Tree.{Ref}
use Rattle.loop_tree.specs.Loops.{Loop, has_cell}
use Rattle.loop_tree.specs.Paths.{Token, uses, defines, Ending, Paths}

-- the scalar with this cell is given a value
abbrev pub defines_cell : ℕ → Token → Bool
defines_cell c (defines r) = r.cell == c
defines_cell c _ = false

-- The path uses a scalar before it defines it.
pub record UsesEarly (c : ℕ) (t : List Token) : Type 0 where
  pub front : List Token
  pub back : List Token
  pub ref : Ref
  pub at : t ≡ front ++ uses ref ∷ back
  pub of : (ref.cell == c) ≡ true
  pub before : list_any (defines_cell c) front ≡ false

-- The range gives the scalar a value, and on no path through the range it is used before its
-- definition.
pub record Private (l : Loop) (c : ℕ) : Type 0 where
  pub assigned : has_cell c l.assigned ≡ true
  pub never : (e : Ending) (t : List Token) → Paths l.body e t → UsesEarly c t → ⊥
