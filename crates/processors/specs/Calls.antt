-- What belongs to a call of `run`.
use Rattle.std.specs.Prelude.{◌≡◌, ℕ, List}
use Rattle.ast.specs.declared.answer.Answer.{Answer}
use Rattle.machine.specs.Code.{Code}
use Rattle.machine.specs.State.{AreSizes, Machine}
use Rattle.replay.specs.CoreView.{CoreView}
use Rattle.replay.specs.Replayed.{IsReplay}
use Rattle.activities.specs.Points.{Point, beginning}
use Rattle.replay.specs.Replays.{Replays}
use Rattle.replay.specs.Tallies.{Tallies}
use Rattle.schedules.specs.Schedules.{IsSchedule, Schedule}
use Rattle.schedules.specs.declared.entry.Version.TheVariants.{Second}

-- a core with this code and input, and so many processors and slots
pub record IsCoreOf (code : Code) (input : List ℕ) (p s : ℕ) (x : CoreView) : Type 0 where
  pub sizes : AreSizes p s
  pub code_is : x.code ≡ code
  pub input_is : x.input ≡ input
  pub processors : x.schedule.processors ≡ p
  pub slots : x.schedule.slots ≡ s

-- The schedule, of so many processors and slots, can be written, and leads to a state that has
-- ended with this answer.
pub record IsRunOf (code : Code) (input : List ℕ) (p s : ℕ) (answer : Answer)
    (x : Schedule) : Type 0 where
  pub sizes : AreSizes p s
  pub processors : x.processors ≡ p
  pub slots : x.slots ≡ s
  pub kept : IsSchedule x
  pub replay : IsReplay code input x answer

-- A schedule of so many processors and slots, which can be written, leads to a state of which this
-- holds.
pub record IsStateOf (code : Code) (input : List ℕ) (p s : ℕ) (P : Machine → Type 0) : Type 0 where
  pub schedule : Schedule
  pub processors : schedule.processors ≡ p
  pub slots : schedule.slots ≡ s
  pub kept : IsSchedule schedule
  pub point : Point
  pub replays : Replays code input schedule point
  pub holds : P point.machine

-- to a state with this output
abbrev pub IsOutputOf : Code → List ℕ → (p s : ℕ) → (output : List ℕ) → Type 0
IsOutputOf code input p s output = IsStateOf code input p s (λ m. output ≡ m.output)

-- The entries of a schedule lead somewhere by so many steps, of which so many park an activity or
-- take up a parked one.
abbrev pub HasTally : Code → List ℕ → (s : ℕ) → Schedule → (made again : ℕ) → Type 0
HasTally code input s x made again =
    (b : Point) × Tallies Second code s (beginning code input s) x.entries b made again
