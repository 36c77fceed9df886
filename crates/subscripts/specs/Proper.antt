-- What a form has to be for a number or a scalar to be added in its place.
use Rattle.std.specs.Prelude.{◌≡◌, true, false, List, [], ◌∷◌, ⊤}
use Rattle.std.specs.List.{list_all}
use Rattle.ast.specs.Exact.{fits}
use Rattle.subscripts.specs.Forms.{Form, Share, has_room, has_share, is_nonzero}
use Rattle.subscripts.specs.declared.leaf.Leaf.{Leaf}
use Rattle.subscripts.specs.declared.leaf.Leaf.TheVariants.{Number, Scalar}

-- each scalar stands once
abbrev pub Once : List Share → Type 0
Once [] = ⊤
Once (s ∷ ss) = (has_share s.cell ss ≡ false) × Once ss

-- each scalar stands once, of a factor other than 0, and the numbers are 64-bit integers
pub record IsProper (f : Form) : Type 0 where
  pub once : Once f.shares
  pub nonzero : list_all is_nonzero f.shares ≡ true
  pub room : has_room f ≡ true

-- a number that is a 64-bit integer, or a scalar
abbrev pub IsProperLeaf : Leaf → Type 0
IsProperLeaf (Number n) = fits n ≡ true
IsProperLeaf (Scalar c) = ⊤
