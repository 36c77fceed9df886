-- Blanks and character constants. A text is cut into marks, which are the bytes outside character
-- constants, and character constants: an apostrophe, the constant's text with each apostrophe
-- doubled, and an apostrophe that no other follows.
use Rattle.std.specs.Prelude.{◌≡◌, ℕ, ◌-◌, ◌≢◌, ◌&&◌, nat_le, ◌==◌}
use Rattle.std.specs.Prelude.{if◌then◌else◌, List, [], ◌∷◌, ◌++◌}

pub data Piece : Type 0 where
  mark : ℕ → Piece
  quoted : List ℕ → Piece

abbrev pub doubled : List ℕ → List ℕ
doubled [] = []
doubled (c ∷ cs) = if c == 39 then 39 ∷ 39 ∷ doubled cs else c ∷ doubled cs

abbrev pub NoApostrophe : List ℕ → Type 0
NoApostrophe [] = Unit {0}
NoApostrophe (c ∷ cs) = c ≢ 39

-- the pieces are a cut of the text
abbrev pub Cut : List Piece → List ℕ → Type 0
Cut [] t = t ≡ []
Cut (mark c ∷ ps) t = (rest : List ℕ) × (t ≡ c ∷ rest) × (c ≢ 39) × Cut ps rest
Cut (quoted s ∷ ps) t =
    (rest : List ℕ) × (t ≡ 39 ∷ (doubled s ++ 39 ∷ rest)) × NoApostrophe rest × Cut ps rest

-- a mark as a statement reads it: blanks mean nothing, and lower case is folded to upper case
abbrev pub folded : ℕ → List ℕ
folded c = if c == 32 then [] else (if nat_le 97 c && nat_le c 122 then (c - 32) ∷ [] else c ∷ [])

-- the marks of a statement, an apostrophe for each character constant
abbrev pub marks : List Piece → List ℕ
marks [] = []
marks (mark c ∷ ps) = folded c ++ marks ps
marks (quoted s ∷ ps) = 39 ∷ marks ps

-- the texts of its character constants
abbrev pub constants : List Piece → List (List ℕ)
constants [] = []
constants (mark c ∷ ps) = constants ps
constants (quoted s ∷ ps) = s ∷ constants ps
