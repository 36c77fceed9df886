-- What is left to do of a run: nothing where no processor has a step.
use Rattle.std.specs.Prelude.{◌≡◌, ◌<◌, ℕ, false}
use Rattle.machine.specs.State.{Choice, CodeStep, Machine}
use Rattle.activities.specs.Activities.{frame_at}
use Rattle.activities.specs.Points.{Picks, Point, local_in}
use Rattle.replay.specs.CoreView.{CoreView, point_at}
use Rattle.replay.specs.Stepping.{MayStep}
use Rattle.unrecorded.specs.Handing.{is_local}
use Rattle.unrecorded.specs.View as run
use Rattle.unrecorded.specs.View.{RunView}

-- no local instruction of what processor q of a core holds stands next
abbrev pub HasNoLocal : CoreView → ℕ → Type 0
HasNoLocal x q = local_in x.code (frame_at q (point_at x)) ≡ false

-- it has no step
abbrev pub HasNoStep : CoreView → ℕ → Type 0
HasNoStep x q = (n : Machine) → MayStep x q n → ⊥

-- no processor has one
abbrev pub NoneSteps : CoreView → Type 0
NoneSteps x = (q : ℕ) → HasNoStep x q

-- ---- the same of a run without a record

abbrev pub NoLocalIn : RunView → ℕ → Type 0
NoLocalIn x q = is_local x q ≡ false

-- processor q can take nothing up
abbrev pub NoPickIn : RunView → ℕ → Type 0
NoPickIn x q = (c : Choice) (b : Point) → Picks x.code x.slots c (run.point_at x) q b → ⊥

abbrev pub NoStepIn : RunView → ℕ → Type 0
NoStepIn x q = (n : Machine) → CodeStep x.code x.slots (run.point_at x).machine q n → ⊥

abbrev pub NoneStepsIn : RunView → Type 0
NoneStepsIn x = (q : ℕ) → q < x.processors → NoStepIn x q
