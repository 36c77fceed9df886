-- Where the elements of names stand that follow each other in one list.
use Rattle.std.specs.Prelude.{ℕ, ◌+◌, Bool, ◌&&◌, ◌==◌, List, [], ◌∷◌}
use Rattle.ast.specs.declared.table.Seat.{Seat}

-- the elements of each name begin behind those of the names before it, from a place on, and end at
-- the other one
abbrev pub is_laid : ℕ → List Seat → ℕ → Bool
is_laid n [] end = n == end
is_laid n (s ∷ seats) end = (s.start == n) && is_laid (n + s.size) seats end
