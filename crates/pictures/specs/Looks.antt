-- What is marked in the picture of a loop that stays serial.
use Rattle.std.specs.Prelude.{◌≡◌, ◌==◌, ◌+◌, ℕ, if◌then◌else◌, List}
use Rattle.std.specs.Prelude.{[], ◌∷◌, Option, Some, None, option_map}
use Rattle.std.specs.List.{All}
use Rattle.arrows.specs.declared.picture.Counted.{Counted}
use Rattle.arrows.specs.declared.picture.Look.{Look}
use Rattle.arrows.specs.declared.picture.Look.TheVariants.{Plain, Marked}
use Rattle.arrows.specs.declared.picture.LoopPicture.{LoopPicture}
use Rattle.arrows.specs.declared.picture.Row.{Row}

-- how the statement of a line looks, by the line of the one that is in the way
abbrev pub look_of : ℕ → Option ℕ → Look
look_of line None = Plain
look_of line (Some hindered) = if hindered == line then Marked else Plain

-- with one more number
abbrev pub with_number : ℕ → Option Counted → Counted
with_number n None = record { first = n; last = n }
with_number n (Some c) = record { first = c.first; last = n }

-- the numbers of the sources in a line, the first and the last, where those from number n on are to
-- come
abbrev pub counted_from : ℕ → List ℕ → ℕ → Option Counted → Option Counted
counted_from n [] line found = found
counted_from n (s ∷ sources) line found =
    counted_from (n + 1) sources line (if s == line then Some (with_number n found) else found)

-- the first source has the number 1
abbrev pub counted_in : List ℕ → ℕ → Option Counted
counted_in sources line = counted_from 1 sources line None

-- The row is marked exactly where it has the line of the statement that is in the way, and has the
-- numbers of the sources in its line.
pub record IsMarked (hindered : Option ℕ) (sources : List ℕ) (r : Row) : Type 0 where
  pub look : r.look ≡ look_of r.line hindered
  pub counted : r.counted ≡ counted_in sources r.line

abbrev pub AreMarked : Option ℕ → List ℕ → List Row → Type 0
AreMarked hindered sources rows = All (IsMarked hindered sources) rows

-- The picture marks the statement in a line, if one is in the way: in the loop's range, its own DO,
-- or the DO of a loop around it, which then stands above its own.
pub record Marks (hindered around : Option ℕ) (sources : List ℕ) (p : LoopPicture) : Type 0 where
  pub rows : AreMarked hindered sources p.rows.items
  pub own : p.look ≡ look_of p.line hindered
  pub outer : option_map (λ s. s.line) p.around ≡ around
