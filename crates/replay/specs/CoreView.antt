-- A core as its callers see it.
use Rattle.std.specs.Prelude.{◌≡◌, ℕ, List, [], ◌∷◌}
use Rattle.machine.specs.Code.{Code}
use Rattle.schedules.specs.Schedules.{Entry, IsSchedule, Schedule, with_entries}
use Rattle.schedules.specs.declared.entry.Version.TheVariants.{Second}
use Rattle.activities.specs.Parts.{Kept, point_of}
use Rattle.activities.specs.Points.{Point, beginning}
use Rattle.machine.specs.State.{AreSizes}
use Rattle.replay.specs.Replays.{Replays}

-- its code and input, the schedule of what it did, and what it keeps
pub record CoreView : Type 0 where
  pub code : Code
  pub input : List ℕ
  pub schedule : Schedule
  pub kept : Kept

-- where it is
abbrev pub point_at : CoreView → Point
point_at x = point_of x.code.variables x.schedule.slots x.kept

-- its schedule can be written, and leads to where it is
pub record IsRecorded (x : CoreView) : Type 0 where
  pub kept : IsSchedule x.schedule
  pub replays : Replays x.code x.input x.schedule (point_at x)

-- nothing has been done
pub record IsNew (code : Code) (input : List ℕ) (p s : ℕ) (x : CoreView) : Type 0 where
  pub sizes : AreSizes p s
  pub code_is : x.code ≡ code
  pub input_is : x.input ≡ input
  pub schedule : x.schedule ≡ record { version = Second; processors = p; slots = s; entries = [] }
  pub point : point_at x ≡ beginning code input s

-- these entries were added, and code and input are as before
pub record IsFurther (x : CoreView) (es : List Entry) (y : CoreView) : Type 0 where
  pub code_is : y.code ≡ x.code
  pub input_is : y.input ≡ x.input
  pub schedule : y.schedule ≡ with_entries x.schedule es

-- one entry was added
abbrev pub IsAfter : CoreView → Entry → CoreView → Type 0
IsAfter x e y = IsFurther x (e ∷ []) y
