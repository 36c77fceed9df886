-- How many steps entries make.
use Rattle.std.specs.Prelude.{◌≡◌, ℕ, ◌+◌, ◌⊎◌, Bool, true, false, List, [], ◌∷◌, length}
use Rattle.machine.specs.Code.{Code}
use Rattle.machine.specs.Frame.{Frame}
use Rattle.machine.specs.Solo.{Still, Weight}
use Rattle.machine.specs.State.{Machine, Choice, CodeRun, Init, take_ticket}
use Rattle.machine.specs.View.{view, trips_of, begin}
use Rattle.machine.specs.declared.code.Open.{Open}
use Rattle.schedules.specs.Schedules.{Act, works, Entry, IsSchedule, Schedule}
use Rattle.schedules.specs.declared.entry.Version.{Version}
use Rattle.activities.specs.Points.{Point, beginning}
use Rattle.replay.specs.Replays.{Does}

-- how many steps an entry makes
abbrev pub steps : Act → ℕ
steps (works n) = n
steps _ = 1

-- one where an entry parks somebody or takes up who was parked; local instructions do neither
abbrev pub Again : Machine → Machine → ℕ → Type 0
Again a b m = ((m ≡ 0) × Still a b) ⊎ ((m ≡ 1) × (Still a b → ⊥))

-- Entries lead from one point to another by so many steps, of which so many park somebody or take
-- up who was parked.
abbrev pub Tallies : Version → Code → ℕ → Point → List Entry → Point → ℕ → ℕ → Type 0
Tallies v code s a [] b made again = (a ≡ b) × (made ≡ 0) × (again ≡ 0)
Tallies v code s a (e ∷ es) b made again =
    (x : Point) × (m : ℕ) × (n : ℕ) × (k : ℕ) × Does v code s e.act a e.processor x
    × Again a.machine x.machine k × Tallies v code s x es b m n
    × (made ≡ steps e.act + m) × (again ≡ k + n)

-- whether who is taken up was parked
abbrev pub takes_parked : Choice → Bool
takes_parked take_ticket = false
takes_parked _ = true

-- a run of so many steps, of which so many don't weigh
pub record Weighed (code : Code) (p s : ℕ) (m n : Machine) (made again : ℕ) : Type 0 where
  pub turns : List ℕ
  pub run : CodeRun code s p m turns n
  pub weight : ℕ
  pub weighs : Weight Frame Open (view code) trips_of (begin code) s p m turns n run weight
  pub made_is : length turns ≡ made
  pub again_is : made ≡ again + weight

-- What is counted of a schedule's entries is the length of a run to where they lead, and how many
-- of its steps don't weigh.
abbrev pub AreCounts : Type 0
AreCounts =
    (code : Code) (input : List ℕ) (x : Schedule) (b : Point) (made again : ℕ) → IsSchedule x
    → Tallies x.version code x.slots (beginning code input x.slots) x.entries b made again
    → Weighed code x.processors x.slots (Init code input) b.machine made again
