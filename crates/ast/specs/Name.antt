-- Names, as lists of six characters.
use Rattle.std.specs.Prelude.{ℕ, ◌==◌, if◌then◌else◌, List, [], ◌∷◌, ◌++◌, length, drop, codes}

-- the six characters of a name: blanks in the place of those that it lacks
abbrev pub padded : List ℕ → List ℕ
padded x = x ++ drop (length x) (codes "      ")

-- a character before characters whose blanks on the right are left out
abbrev pub before_blanks : ℕ → List ℕ → List ℕ
before_blanks c [] = if c == 32 then [] else c ∷ []
before_blanks c (d ∷ ds) = c ∷ d ∷ ds

-- a name's characters without the blanks that fill it on the right
abbrev pub trimmed : List ℕ → List ℕ
trimmed [] = []
trimmed (c ∷ cs) = before_blanks c (trimmed cs)
