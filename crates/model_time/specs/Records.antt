-- Schedules of runs in model time.
use Rattle.std.specs.Prelude.{◌≡◌, ⊤, ℕ, Bool, true, false, List, []}
use Rattle.std.specs.Prelude.{◌∷◌, Option, Some, None, IfSome, is_some}
use Rattle.machine.specs.Code.{Code}
use Rattle.activities.specs.Activities.{chosen}
use Rattle.activities.specs.Points.{Point}
use Rattle.replay.specs.Making.{pick_of}
use Rattle.replay.specs.Replays.{Replays}
use Rattle.schedules.specs.Schedules.{Act, Entry, IsSchedule, Schedule, shares, works}
use Rattle.schedules.specs.declared.entry.Version.TheVariants.{Second}
use Rattle.unrecorded.specs.View.{RunView, point_at}
use Rattle.model_time.specs.declared.turned.Turned.{Turned}
use Rattle.model_time.specs.declared.turned.Turned.TheVariants.{Local, Shared, Picked, Waited}

-- what is written of a turn: each step for itself, and nothing where none was made
abbrev pub act_of : Turned → Option Act
act_of Local = Some (works 1)
act_of (Shared l) = Some shares
act_of (Picked c) = Some (pick_of (chosen c))
act_of Waited = None

-- the entries of processor q's turn
abbrev pub entries_for : ℕ → Option Act → List Entry
entries_for q None = []
entries_for q (Some act) = record { processor = q; act = act } ∷ []

abbrev pub entries_of : ℕ → Turned → List Entry
entries_of q t = entries_for q (act_of t)

-- a schedule without entries, if one is wanted
abbrev pub new_schedule : Bool → ℕ → ℕ → Option Schedule
new_schedule false p s = None
new_schedule true p s = Some (record { version = Second; processors = p; slots = s; entries = [] })

-- The schedule, of so many processors and slots, can be written, and leads to this point.
pub record IsRecord (code : Code) (input : List ℕ) (p s : ℕ) (x : Schedule)
    (b : Point) : Type 0 where
  pub version : x.version ≡ Second
  pub processors : x.processors ≡ p
  pub slots : x.slots ≡ s
  pub kept : IsSchedule x
  pub replays : Replays code input x b

-- a schedule is there exactly where it is wanted, and leads to this point
abbrev pub RecordsWanted : Bool → Code → List ℕ → ℕ → ℕ → Option Schedule → Point → Type 0
RecordsWanted wanted code input p s kept b =
    (is_some kept ≡ wanted) × IfSome kept (λ x. IsRecord code input p s x b)

-- ---- the same of a run

-- the schedule, if one is kept, leads to where the run is
abbrev pub Records : RunView → Option Schedule → Type 0
Records x kept = IfSome kept (λ y. IsRecord x.code x.input x.processors x.slots y (point_at x))

-- so it does, and one is kept if one was
abbrev pub AlsoRecords : Option Schedule → RunView → Option Schedule → Type 0
AlsoRecords old x kept = (is_some kept ≡ is_some old) × Records x kept
