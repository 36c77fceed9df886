-- How the entries of a schedule are kept: each in a few bytes, and the numbers of the iterations
-- that are picked beside them, in order.
use Rattle.std.specs.Prelude.{◌≡◌, ℕ, zero, suc, ◌+◌, ◌/◌, ◌%◌, List, [], ◌∷◌, ◌++◌}
use Rattle.std.specs.Prelude.{length, drop, get_or, replicate, Option, Some, None}
use Rattle.schedules.specs.Schedules.{Entry, Schedule, IsSchedule, longest_burst}
use Rattle.schedules.specs.Schedules.{works, shares, picks_main, picks, takes_ticket}
use Rattle.schedules.specs.declared.entry.Version.{Version}
use Rattle.schedules.specs.declared.short.Short.{Short}
use Rattle.schedules.specs.declared.short.Short.TheVariants.{Work, Share, PickMain}
use Rattle.schedules.specs.declared.short.Short.TheVariants.{PickIteration, TakeTicket}

-- the entry of a short one, with the first of the numbers where it picks an iteration
abbrev pub entry_of : Short → List ℕ → Entry
entry_of (Work q n) ks = record { processor = q; act = works n }
entry_of (Share q) ks = record { processor = q; act = shares }
entry_of (PickMain q) ks = record { processor = q; act = picks_main }
entry_of (PickIteration q) ks = record { processor = q; act = picks (get_or ks 0 0) }
entry_of (TakeTicket q) ks = record { processor = q; act = takes_ticket }

-- how many of the numbers it takes
abbrev pub taken : Short → ℕ
taken (PickIteration q) = 1
taken _ = 0

-- its processor, and how many local instructions it is of, if it is of any
abbrev pub burst_of : Short → Option (ℕ × ℕ)
burst_of (Work q n) = Some (q, n)
burst_of _ = None

-- the same of so many local instructions, if it is of any
abbrev pub counting : ℕ → Short → Short
counting n (Work q m) = Work q n
counting n s = s

abbrev pub entries_of : List Short → List ℕ → List Entry
entries_of [] ks = []
entries_of (s ∷ ss) ks = entry_of s ks ∷ entries_of ss (drop (taken s) ks)

abbrev pub all_taken : List Short → ℕ
all_taken [] = 0
all_taken (s ∷ ss) = taken s + all_taken ss

-- so many local instructions, as `bursts` has them
abbrev pub last_short : ℕ → ℕ → List Short
last_short q zero = []
last_short q (suc n) = Work q (suc n) ∷ []

abbrev pub short_bursts : ℕ → ℕ → List Short
short_bursts q n =
    replicate (n / longest_burst) (Work q longest_burst) ++ last_short q (n % longest_burst)

abbrev pub seen : Version → ℕ → ℕ → List Short → List ℕ → Schedule
seen v p s ss ks = record { version = v; processors = p; slots = s; entries = entries_of ss ks }

-- there is a number for each pick of an iteration, and the whole is a schedule
pub record IsKept (v : Version) (p s : ℕ) (ss : List Short) (ks : List ℕ) : Type 0 where
  pub all : all_taken ss ≡ length ks
  pub schedule : IsSchedule (seen v p s ss ks)
