-- Awaits that are passed by counts that somebody saw.
use Rattle.std.specs.Prelude.{ℕ, ◌+◌, ◌≤◌, ◌&&◌, Bool, List, nat_lt, get_or}
use Rattle.stretches.specs.declared.reached.Reached.{Reached}

-- whether an iteration passes the await of an event at a distance by counts of events
abbrev pub passes : List ℕ → ℕ → ℕ → ℕ → Bool
passes counts k e d = nat_lt 0 e && nat_lt k (get_or counts e 0 + d)

abbrev pub passed_by : Reached → ℕ → ℕ → Bool
passed_by r e d = passes r.counts.items r.number e d

-- no count that was seen is greater than the event's count now
abbrev pub AreReached : List ℕ → List ℕ → Type 0
AreReached seen counts = (e : ℕ) → get_or seen e 0 ≤ get_or counts e 0
