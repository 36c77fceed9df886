-- Notes, one after another, against cells.
use Rattle.std.specs.Prelude.{ℤ, pos, nat_lt, ◌&&◌, Bool, true, List, [], ◌∷◌, length, get_or, set}
use Rattle.std.specs.Ordering.{int_eq}
use Rattle.stretches.specs.declared.note.Note.{Note}

-- there is such a cell, and it has the value that it was taken to have
abbrev pub holds : Note → List ℤ → Bool
holds n cells = nat_lt n.cell (length cells) && int_eq (get_or cells n.cell (pos 0)) n.was

-- the cells behind an access
abbrev pub behind : Note → List ℤ → List ℤ
behind n cells = set cells n.cell n.is

-- each note holds of the cells behind those before it
abbrev pub all_hold : List Note → List ℤ → Bool
all_hold [] cells = true
all_hold (n ∷ ns) cells = holds n cells && all_hold ns (behind n cells)

-- the cells behind all of them
abbrev pub cells_by : List Note → List ℤ → List ℤ
cells_by [] cells = cells
cells_by (n ∷ ns) cells = cells_by ns (behind n cells)

-- the cells before an access, if it was made on them
abbrev pub before : Note → List ℤ → List ℤ
before n cells = set cells n.cell n.was

-- the cells before all of them, from the last to the first
abbrev pub undone : List Note → List ℤ → List ℤ
undone [] cells = cells
undone (n ∷ ns) cells = before n (undone ns cells)
