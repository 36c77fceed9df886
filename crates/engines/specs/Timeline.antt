-- What `timeline` may write of a source text, an input and the text of a schedule.
use Rattle.std.specs.Prelude.{◌≡◌, ◌⊎◌, ℕ, List, Some}
use Rattle.ast.specs.Meaning.{seq}
use Rattle.ast.specs.Program.{ProgramTree}
use Rattle.machine.specs.Code.{Code}
use Rattle.replay.specs.Replayed.{HasStop, NotEnded}
use Rattle.activities.specs.Points.{Point}
use Rattle.replay.specs.Replays.{Replays}
use Rattle.schedules.specs.Schedules.{Schedule}
use Rattle.engines.specs.Prepared.{IsLine, WithRun}
use Rattle.engines.specs.declared.made.Made.{Made}
use Rattle.engines.specs.declared.made.Made.TheVariants.{Text, Shown}

-- The run of a schedule leads the code on the input where the sequential program ends.
pub record IsTimed (tree : ProgramTree) (code : Code) (input : List ℕ) (x : Schedule) : Type 0 where
  pub point : Point
  pub replays : Replays code input x point
  pub ended : point.machine.ended ≡ Some (seq tree input).end

-- all entries of a schedule are possible, and behind them the run hasn't ended
abbrev pub IsBegun : Code → (input : List ℕ) → Schedule → Type 0
IsBegun code input x = (line : ℕ) × NotEnded code input x line

-- What `timeline` may come to: a picture for OUT, where the schedule leads to the end of a run or
-- stops before it, or what standard output has.
abbrev pub Times : (source input schedule : List ℕ) → Made → Type 0
Times source input schedule (Text text) =
    WithRun source schedule (λ tree code x. IsTimed tree code input x ⊎ IsBegun code input x)
Times source input schedule (Shown page) =
    IsLine HasStop source input schedule page.outcome page.text.items
