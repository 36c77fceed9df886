-- Records that are handed on piece by piece.
use Rattle.std.specs.Prelude.{◌≡◌, ℕ, ◌<◌, List, ◌∷◌, ◌++◌, length, take, Option}
use Rattle.std.specs.Io.KnownBytes.{Appends}

-- the one text is a beginning of the other, or all of it
abbrev pub Begins : List ℕ → List ℕ → Type 0
Begins front whole = (rest : List ℕ) × (whole ≡ front ++ rest)

-- the one text is a beginning of the other, of which something is missing
abbrev pub FallsShort : List ℕ → List ℕ → Type 0
FallsShort front whole = (next : ℕ) × (rest : List ℕ) × (whole ≡ front ++ next ∷ rest)

-- known bytes stay at the front and grow by a beginning of a text, of which something is missing
abbrev pub AppendsPart : Option (List ℕ) → Option (List ℕ) → List ℕ → Type 0
AppendsPart old new text = (n : ℕ) × (n < length text) × Appends old new (take n text)

-- the output is what a writer got since it held these bytes, and then what is pending
abbrev pub Stands : Option (List ℕ) → Option (List ℕ) → List ℕ → List ℕ → Type 0
Stands old new pending output = (got : List ℕ) × Appends old new got × (output ≡ got ++ pending)
