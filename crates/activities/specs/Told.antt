-- Awaits that are passed.
use Rattle.std.specs.Prelude.{ℕ, ◌+◌, Bool, false, nat_lt, List}
use Rattle.activities.specs.Parts.{counts_of}
use Rattle.activities.specs.declared.told.Told.{Told}
use Rattle.activities.specs.declared.told.Told.TheVariants.{Counts, Nothing}

-- whether the iteration so many before this one has told of an event, by the counts
abbrev pub is_told : List ℕ → ℕ → ℕ → ℕ → Bool
is_told counts k e d = nat_lt k (counts_of counts e + d)

-- whether an activity that was told so much passes it
abbrev pub is_told_by : Told → ℕ → ℕ → Bool
is_told_by Nothing e d = false
is_told_by (Counts c) e d = is_told c.kernel.now.counts c.number e d
