-- An account of PRINT: a record, piece by piece.
use Rattle.std.specs.Prelude.{◌≡◌, ◌≤◌, ◌++◌, ℕ, ℤ, Bool, false, List, ◌∷◌, length, reverse, take}
use Rattle.ast.specs.Record.{all_shown}
use Rattle.machine.specs.Code.{Part}
use Rattle.machine.specs.View.{filled, values_wanted}

-- what is left to print, with so many of the operands left, the last one first
abbrev pub to_print : Bool → List Part → ℕ → List ℤ → List ℕ
to_print is_first ps left vs = all_shown is_first (filled ps (reverse (take left vs)))

-- a piece has been printed
abbrev pub PrintsPiece : Bool → Part → ℕ → List ℤ → List ℕ → ℕ → List ℕ → Type 0
PrintsPiece is_first p left vs old rest new =
    (ps : List Part) → values_wanted (p ∷ ps) ≡ left → left ≤ length vs
    → (values_wanted ps ≡ rest)
    × (new ++ to_print false ps rest vs ≡ old ++ to_print is_first (p ∷ ps) left vs)
