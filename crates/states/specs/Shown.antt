-- What `replay --states` writes of a source, an input and a schedule.
use Rattle.std.specs.Prelude.{◌≡◌, ◌⊎◌, ℕ, ◌+◌, false, List, [], ◌∷◌, ◌++◌}
use Rattle.std.specs.Prelude.{length, Option, Some, None, Result, Ok, Err}
use Rattle.std.specs.Io.KnownBytes.{Appends, Keeps}
use Rattle.ast.specs.Meaning.{seq}
use Rattle.ast.specs.Program.{ProgramTree}
use Rattle.ast.specs.declared.fault.End.{End}
use Rattle.record_writer.specs.Written.{AppendsPart, Begins}
use Rattle.machine.specs.Code.{Code}
use Rattle.schedules.specs.Schedules.{Entry, Schedule}
use Rattle.schedules.specs.declared.entry.Version.{Version}
use Rattle.schedules.specs.declared.flaw.Flaw.{Flaw}
use Rattle.schedules.specs.declared.flaw.Flaw.TheVariants.{Unended}
use Rattle.activities.specs.Points.{Point, beginning}
use Rattle.replay.specs.Replayed.{CannotBeMade}
use Rattle.command_output.specs.Outcomes.{outcome_of}
use Rattle.command_output.specs.Shown.{EndShown, no_schedule}
use Rattle.command_output.specs.declared.fault.EngineFault.{EngineFault}
use Rattle.command_output.specs.declared.fault.EngineFault.TheVariants.{Memory, Writing}
use Rattle.command_output.specs.declared.outcomes.Outcome.{Outcome}
use Rattle.command_output.specs.declared.outcomes.Outcome.TheVariants.{NoSchedule}
use Rattle.engines.specs.Engines.{Wrote}
use Rattle.engines.specs.Prepared.{IsNoRun, WithRun}
use Rattle.state_lines.specs.States.{first_block}
use Rattle.states.specs.Followed.{Shows}

-- The blocks of a schedule's text: that of its second line, and those of some entries, from the
-- first on; the rest is left.
pub record Blocks (code : Code) (input : List ℕ) (x : Schedule) (blocks : List ℕ) : Type 0 where
  pub front : List Entry
  pub rest : List Entry
  pub is : x.entries ≡ front ++ rest
  pub point : Point
  pub behind : List ℕ
  pub shows :
      Shows x.version code x.processors x.slots 3 (beginning code input x.slots) front point behind
  pub shown : blocks ≡ first_block code x.processors (beginning code input x.slots) ++ behind

-- The schedule leads the code to its end on the input, which is that of the sequential program, as
-- what has gone out is what that prints. The states of all its lines are shown, and what follows
-- the records.
pub record IsStated (tree : ProgramTree) (code : Code) (input : List ℕ) (x : Schedule)
    (outcome : Outcome) (text : List ℕ) : Type 0 where
  pub blocks : List ℕ
  pub are : Blocks code input x blocks
  pub all : are.rest ≡ []
  pub ended : are.point.machine.ended ≡ Some (seq tree input).end
  pub output : are.point.machine.output ≡ (seq tree input).output
  pub outcome_is : outcome ≡ outcome_of (seq tree input).end
  pub last : List ℕ
  pub ends : EndShown false [] (seq tree input).end last
  pub shown : text ≡ blocks ++ last

-- why the schedule is refused behind some of its entries: the next one, at this line, can't be
-- made; or none is left, and the run hasn't ended
abbrev pub Stops : Version → Code → ℕ → (front rest : List Entry) → Point → Flaw
    → (line : ℕ) → Type 0
Stops v code s front [] x flaw line =
    (flaw ≡ Unended) × (line ≡ 2 + length front) × (x.machine.ended ≡ None)
Stops v code s front (e ∷ es) x flaw line =
    (line ≡ 3 + length front) × CannotBeMade v code s e.act x e.processor flaw

-- The states before the refused line are shown, and the line that says why.
pub record IsStopped (code : Code) (input : List ℕ) (x : Schedule) (outcome : Outcome)
    (text : List ℕ) : Type 0 where
  pub flaw : Flaw
  pub line : ℕ
  pub outcome_is : outcome ≡ NoSchedule flaw line
  pub blocks : List ℕ
  pub are : Blocks code input x blocks
  pub stops : Stops x.version code x.slots are.front are.rest are.point flaw line
  pub shown : text ≡ blocks ++ no_schedule flaw line

-- what is shown of a source, an input and the text of a schedule
abbrev pub Stating : (source input schedule : List ℕ) → Outcome → List ℕ → Type 0
Stating source input schedule outcome text =
    IsNoRun source schedule outcome text
    ⊎ WithRun source schedule (λ tree code x.
    IsStated tree code input x outcome text ⊎ IsStopped code input x outcome text)

-- the blocks of what they describe
abbrev pub AreBlocks : (source input schedule blocks : List ℕ) → Type 0
AreBlocks source input schedule blocks =
    WithRun source schedule (λ tree code x. Blocks code input x blocks)

-- ---- how it is written: block by block

-- all that is allowed, or blocks
abbrev pub IsSome : (Outcome → List ℕ → Type 0) → (List ℕ → Type 0) → List ℕ → Type 0
IsSome allows blocks text = ((outcome : Outcome) × allows outcome text) ⊎ blocks text

-- a writer's bytes grew by a beginning of that, or all of it
pub record Began (allows : Outcome → List ℕ → Type 0) (blocks : List ℕ → Type 0)
    (old new : Option (List ℕ)) : Type 0 where
  pub text : List ℕ
  pub some : IsSome allows blocks text
  pub got : List ℕ
  pub begins : Begins got text
  pub grown : Appends old new got

-- an outcome with all that is allowed written; where writing failed or memory was refused a
-- beginning of it or of blocks, or nothing
abbrev pub Streams : (Outcome → List ℕ → Type 0) → (List ℕ → Type 0) → (old new : Option (List ℕ))
    → Result Outcome EngineFault → Type 0
Streams allows blocks old new (Ok outcome) = Wrote allows old new outcome
Streams allows blocks old new (Err (Writing e)) = Keeps old new ⊎ Began allows blocks old new
Streams allows blocks old new (Err Memory) = Keeps old new ⊎ Began allows blocks old new
Streams allows blocks old new (Err _) = ⊥

-- what is shown of them is written so
abbrev pub StatesStream : (source input schedule : List ℕ) → (old new : Option (List ℕ))
    → Result Outcome EngineFault → Type 0
StatesStream source input schedule old new result =
    Streams (Stating source input schedule) (AreBlocks source input schedule) old new result

-- ---- pages

-- a page with this text was written, or a beginning of it where writing failed
abbrev pub WrotePage : Outcome → List ℕ → (old new : Option (List ℕ))
    → Result Outcome EngineFault → Type 0
WrotePage o text old new (Ok outcome) = (outcome ≡ o) × Appends old new text
WrotePage o text old new (Err (Writing e)) = AppendsPart old new text
WrotePage o text old new (Err Memory) = new ≡ old
WrotePage o text old new (Err _) = ⊥

-- what follows the states of all entries, of which the last stands in this line
abbrev pub IsLast : Option End → ℕ → Outcome → List ℕ → Type 0
IsLast None line outcome text =
    (outcome ≡ NoSchedule Unended line) × (text ≡ no_schedule Unended line)
IsLast (Some end) line outcome text = (outcome ≡ outcome_of end) × EndShown false [] end text
