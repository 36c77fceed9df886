-- Which loops may be open, by what loops are by themselves.
use Rattle.std.specs.Prelude.{◌↔◌, List, [], ◌∷◌, ⊤}
use Rattle.dependence.specs.Kept.{EligibleIn, Suits}
use Rattle.loop_tree.specs.Loops.{Loop}

-- none of these loops suits
abbrev pub NoneSuits : List Loop → Type 0
NoneSuits [] = ⊤
NoneSuits (m ∷ around) = (Suits m → ⊥) × NoneSuits around

-- A loop may be open exactly where it suits and no loop around it does.
abbrev pub IsOutermost : Type 0
IsOutermost = (l : Loop) (around : List Loop) → EligibleIn l around ↔ (Suits l × NoneSuits around)
