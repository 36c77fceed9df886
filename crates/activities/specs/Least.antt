-- What is ready, and what of it is taken up where iterations are to retire early.
use Rattle.std.specs.Prelude.{◌≡◌, ◌<◌, ◌+◌, ◌&&◌, ℕ, nat_lt, Bool, false, Option, Some, None}
use Rattle.machine.specs.State.{Choice, take_main, take_iteration}
use Rattle.machine.specs.State.{take_ticket, Machine, Reached, Wait}
use Rattle.machine.specs.declared.code.Open.{Open}

-- it is parked, and what it waits for has been reached
abbrev pub IsReached : Machine → Option Wait → Type 0
IsReached m o = (w : Wait) × (o ≡ Some w) × Reached m w

-- iteration k is parked, and what it waits for is reached
abbrev pub IsReady : Machine → ℕ → Type 0
IsReady m k = IsReached m (m.parked k)

-- the iteration of least number that is ready, or none is
abbrev pub IsLeastReady : Machine → Option ℕ → Type 0
IsLeastReady m None = (k : ℕ) → IsReady m k → ⊥
IsLeastReady m (Some k) = IsReady m k × ((j : ℕ) → j < k → IsReady m j → ⊥)

-- Main where it is ready, else the least iteration that is, and a ticket where nothing is ready.
abbrev pub IsLeast : Machine → Choice → Type 0
IsLeast m take_main = IsReached m m.waiting
IsLeast m (take_iteration k) = (IsReached m m.waiting → ⊥) × IsLeastReady m (Some k)
IsLeast m take_ticket = (IsReached m m.waiting → ⊥) × IsLeastReady m None

-- whether the next iteration of the loop that is open, if one is, may begin, where s may be open
abbrev pub begins : ℕ → Machine → Option Open → Bool
begins s m None = false
begins s m (Some l) = nat_lt m.ticket l.trips && nat_lt m.ticket (m.retired + s)

-- the same of the loop that is open in a state: whether there is a ticket to take up
abbrev pub has_ticket : ℕ → Machine → Bool
has_ticket s m = begins s m m.loop
