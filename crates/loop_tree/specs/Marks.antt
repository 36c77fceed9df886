-- Which cells are marked, by a list that has a truth value for each from 0 on.
use Rattle.std.specs.Prelude.{ℕ, Bool, false, List, Option, Some, None, slice_get}

abbrev pub is_set : Option Bool → Bool
is_set None = false
is_set (Some b) = b

-- a cell beyond the list isn't marked
abbrev pub mark_at : List Bool → ℕ → Bool
mark_at bs c = is_set (slice_get bs c)
