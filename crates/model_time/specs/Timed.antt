-- What comes of a run in model time.
use Rattle.std.specs.Prelude.{◌≡◌, ◌-◌, ◌^◌, min, ℕ, List, length, Option, Some, None}
use Rattle.ast.specs.declared.answer.Answer.{Answer}
use Rattle.machine.specs.Code.{Code}
use Rattle.machine.specs.State.{AreSizes, Machine}
use Rattle.activities.specs.Points.{Point, beginning}
use Rattle.replay.specs.Replayed.{IsAnswer}
use Rattle.unrecorded.specs.View.{IsReached}
use Rattle.model_time.specs.Figures.{no_figures}
use Rattle.model_time.specs.Records.{RecordsWanted}
use Rattle.model_time.specs.Units.{MayLeave, Units, no_figures_of}
use Rattle.model_time.specs.declared.pace.Pace.{Pace}
use Rattle.model_time.specs.declared.timed.Timed.{Timed}

-- the answer of a state that has ended; none of one that hasn't
abbrev pub Answers : Code → Machine → Option Answer → Type 0
Answers code m None = m.ended ≡ None
Answers code m (Some answer) = IsAnswer code m answer

-- So many units lead from the beginning to a state, and this is counted of them. The answer is that
-- of the state, to which a run of the machine leads, and so does the schedule, where it is wanted.
-- Where there is no answer, at least as many steps were made as were to be, or none is possible.
pub record IsTimed (code : Code) (input : List ℕ) (pace : Pace) (x : Timed) : Type 0 where
  pub sizes : AreSizes pace.processors pace.slots
  pub units : ℕ
  pub point : Point
  pub counted : Units code pace.slots pace.processors units (beginning code input pace.slots)
      no_figures (no_figures_of (length code.loops)) point x.program x.loops.items
  pub time : x.program.time ≡ min units (2 ^ 64 - 1)
  pub reached : IsReached code input pace.processors pace.slots point.machine
  pub answers : Answers code point.machine x.answer
  pub left : MayLeave code pace.processors pace.slots pace.most point.machine x.program
  pub records : RecordsWanted pace.schedule code input pace.processors pace.slots x.schedule point
