-- What `run` may come to with a source text and an input, and what it writes of that.
use Rattle.std.specs.Prelude.{◌≡◌, ◌⊎◌, ⊤, ℕ, Bool, true, false, List, [], Option}
use Rattle.std.specs.Prelude.{Some, None, Result, Ok, Err, Vec, option_map}
use Rattle.std.specs.Global.{Global}
use Rattle.std.specs.Io.KnownBytes.{Appends}
use Rattle.ast.specs.Meaning.{seq}
use Rattle.ast.specs.Program.{ProgramTree}
use Rattle.ast.specs.ProgramView.{program as program_of}
use Rattle.ast.specs.Symbols.{Symbol}
use Rattle.ast.specs.View.{cells}
use Rattle.ast.specs.declared.answer.Answer.{Answer}
use Rattle.codegen.specs.Headline.{IsBeginning}
use Rattle.machine.specs.Code.{Code}
use Rattle.machine.specs.CodeView.{code_of}
use Rattle.machine.specs.State.{AreSizes, Ended}
use Rattle.activities.specs.Points.{Point}
use Rattle.replay.specs.Replays.{Replays}
use Rattle.processors.specs.declared.report.RunRefusal.{RunRefusal}
use Rattle.processors.specs.declared.report.RunRefusal.TheVariants as runs
use Rattle.schedules.specs.Schedules.{SchedText, Schedule}
use Rattle.record_writer.specs.Written.{AppendsPart}
use Rattle.command_output.specs.Outcomes.{outcome_of, status_of}
use Rattle.command_output.specs.Reading.{OfText}
use Rattle.command_output.specs.Shown.{EndShown, Extends}
use Rattle.command_output.specs.Status.{number_of}
use Rattle.command_output.specs.View.{rows_from}
use Rattle.command_output.specs.declared.fault.EngineFault.{EngineFault}
use Rattle.command_output.specs.declared.fault.EngineFault.TheVariants as faults
use Rattle.command_output.specs.declared.outcomes.Outcome.{Outcome}
use Rattle.engines.specs.Engines.{ShowsRun}
use Rattle.engines.specs.Prepared.{IsUncoded, WithCode}
use Rattle.engines.specs.declared.given.Wants.{Wants}
use Rattle.engines.specs.declared.prepared.Coded.{Coded}
use Rattle.threaded.specs.Joined.{IsGiven}
use Rattle.threaded.specs.declared.ran.Ran.{Ran}
use Rattle.threaded.specs.declared.ran.Ran.TheVariants.{Refused, Whole as Came, Memory}
use Rattle.threaded.specs.declared.ran.Ran.TheVariants.{OutOfRange, NotStarted, Stuck}
use Rattle.threaded.specs.declared.ran.Whole.{Whole}

-- The text is that of a schedule of so many processors and slots. It leads the code on the input to
-- an end that is the sequential program's.
pub record IsScheduleOf (tree : ProgramTree) (code : Code) (input : List ℕ) (p s : ℕ)
    (text : List ℕ) : Type 0 where
  pub schedule : Schedule
  pub spelled : SchedText schedule text
  pub processors : schedule.processors ≡ p
  pub slots : schedule.slots ≡ s
  pub point : Point
  pub replays : Replays code input schedule point
  pub ended :
      Ended point.machine (seq tree input).output (seq tree input).end (seq tree input).store

-- a text is there exactly where it is wanted, and this holds of it
abbrev pub WhereWanted : Bool → Option (Vec ℕ Global) → (List ℕ → Type 0) → Type 0
WhereWanted true (Some text) P = P text.items
WhereWanted true None P = ⊥
WhereWanted false (Some text) P = ⊥
WhereWanted false None P = ⊤

-- The numbers are in range, the sequential program's answer is shown, and the schedule, where it is
-- wanted, is one that leads to this answer.
pub record IsWhole (tree : ProgramTree) (code : Code) (input : List ℕ) (w : Wants)
    (whole : Whole) : Type 0 where
  pub sizes : AreSizes w.processors w.slots
  pub shown : ShowsRun w.store tree input whole.page.outcome whole.page.text.items
  pub schedule :
      WhereWanted w.schedule whole.schedule (IsScheduleOf tree code input w.processors w.slots)

-- What is shown of an answer, beside the text of its schedule, if it has one; where there is no
-- memory for that, the records alone.
abbrev pub Shows : {E : Type 0} → (store : Bool) → List Symbol → Answer
    → Result (Option (Vec ℕ Global)) E → Ran → Type 0
Shows store symbols answer schedule (Came whole) =
    (whole.page.outcome ≡ outcome_of answer.end)
    × Extends (EndShown store
    (rows_from (cells answer.store) 0 symbols) answer.end) answer.output.items whole.page.text.items
    × (schedule ≡ Ok whole.schedule)
Shows store symbols answer schedule (Memory output) = output.items ≡ answer.output.items
Shows store symbols answer schedule _ = ⊥

-- what comes of a run that gives no answer
abbrev pub IsRefusal : RunRefusal → Ran → Type 0
IsRefusal (runs.Memory output) ran = ran ≡ Memory output
IsRefusal runs.OutOfRange ran = ran ≡ OutOfRange
IsRefusal (runs.NotStarted failure) ran = ran ≡ NotStarted failure
IsRefusal runs.Stuck ran = ran ≡ Stuck

-- What a run of code may come to. Code of a program is never stuck.
abbrev pub ComesOf : ProgramTree → Code → (input : List ℕ) → Wants → Ran → Type 0
ComesOf tree code input w (Refused page) = ⊥
ComesOf tree code input w (Came whole) = IsWhole tree code input w whole
ComesOf tree code input w (Memory output) = IsBeginning output.items (seq tree input).output
ComesOf tree code input w OutOfRange = AreSizes w.processors w.slots → ⊥
ComesOf tree code input w (NotStarted failure) = AreSizes w.processors w.slots
ComesOf tree code input w Stuck = ⊥

-- the code is a program's, as `compile` gives it
abbrev pub IsGivenCode : Coded → Type 0
IsGivenCode x = IsGiven (program_of x.program) (code_of x.code)

-- what a run of it may come to
abbrev pub ComesOfCoded : Coded → (input : List ℕ) → Wants → Ran → Type 0
ComesOfCoded x input w ran = ComesOf (program_of x.program) (code_of x.code) input w ran

-- There is no run: the source is refused, by its text or for its code, or there is no memory to
-- find that out, and nothing has gone out.
abbrev pub IsNotRun : (source : List ℕ) → Ran → Type 0
IsNotRun source (Refused page) = IsUncoded source page.outcome page.text.items
IsNotRun source (Memory output) = output.items ≡ []
IsNotRun source _ = ⊥

-- what `run` may come to with a source
abbrev pub Running : (source input : List ℕ) → Wants → Ran → Type 0
Running source input w ran =
    WithCode source (λ tree code. ComesOf tree code input w ran) ⊎ IsNotRun source ran

-- ---- what is written: the schedule's writer has bytes from `before` to `after`, the other
-- one's from `old` to `new`

abbrev pub text_of : Option (Vec ℕ Global) → Option (List ℕ)
text_of = option_map (λ v. v.items)

-- known bytes grow by a text, if there is one
abbrev pub Grows : Option (List ℕ) → (old new : Option (List ℕ)) → Type 0
Grows None old new = new ≡ old
Grows (Some text) old new = Appends old new text

-- there is a text, and they grow by a beginning of it, of which something is missing
abbrev pub GrowsPart : Option (List ℕ) → (old new : Option (List ℕ)) → Type 0
GrowsPart None old new = ⊥
GrowsPart (Some text) old new = AppendsPart old new text

-- The schedule's text was written, if it is wanted, and then the page; or a beginning of one of
-- them, and nothing behind it.
abbrev pub WritesWhole : Whole → (before after old new : Option (List ℕ))
    → Result Outcome EngineFault → Type 0
WritesWhole x before after old new (Ok outcome) =
    (outcome ≡ x.page.outcome) × Grows (text_of x.schedule) before after
    × Appends old new x.page.text.items
WritesWhole x before after old new (Err (faults.Writing e)) =
    (GrowsPart (text_of x.schedule) before after × (new ≡ old))
    ⊎ (Grows (text_of x.schedule) before after × AppendsPart old new x.page.text.items)
WritesWhole x before after old new (Err _) = ⊥

-- a text was written, or a beginning of it, with this answer where all of it was
abbrev pub WritesText : List ℕ → Result Outcome EngineFault → (old new : Option (List ℕ))
    → Result Outcome EngineFault → Type 0
WritesText text answer old new (Err (faults.Writing e)) = AppendsPart old new text
WritesText text answer old new result = (result ≡ answer) × Appends old new text

-- What came of a run was written: of one that was given up for want of memory the records that had
-- gone out, and of one that there isn't nothing.
abbrev pub WritesRan : Ran → (before after old new : Option (List ℕ))
    → Result Outcome EngineFault → Type 0
WritesRan (Refused page) before after old new result =
    (after ≡ before) × WritesText page.text.items (Ok page.outcome) old new result
WritesRan (Came whole) before after old new result = WritesWhole whole before after old new result
WritesRan (Memory output) before after old new result =
    (after ≡ before) × WritesText output.items (Err faults.Memory) old new result
WritesRan OutOfRange before after old new result =
    (result ≡ Err faults.OutOfRange) × (after ≡ before) × (new ≡ old)
WritesRan (NotStarted failure) before after old new result =
    (result ≡ Err faults.NotStarted) × (after ≡ before) × (new ≡ old)
WritesRan Stuck before after old new result =
    (result ≡ Err faults.Stuck) × (after ≡ before) × (new ≡ old)

-- what may come of a run was written, with this answer
pub record WroteRan (allows : Ran → Type 0) (before after old new : Option (List ℕ))
    (result : Result Outcome EngineFault) : Type 0 where
  pub ran : Ran
  pub allowed : allows ran
  pub written : WritesRan ran before after old new result

-- the same, with the number of an outcome's status
abbrev pub WroteStatus : (Ran → Type 0) → (before after old new : Option (List ℕ)) → ℕ → Type 0
WroteStatus allows before after old new status =
    (outcome : Outcome) × (status ≡ number_of (status_of outcome))
    × WroteRan allows before after old new (Ok outcome)

-- What a fault leaves of the writers: both as they were where reading failed, and otherwise what is
-- written of what came of a run; or both as they were for want of memory to read.
abbrev pub LeavesRun : EngineFault → (before after old new : Option (List ℕ)) → Type 0 → Type 0
LeavesRun (faults.Source e) before after old new wrote = (after ≡ before) × (new ≡ old)
LeavesRun (faults.Input e) before after old new wrote = (after ≡ before) × (new ≡ old)
LeavesRun (faults.Schedule e) before after old new wrote = ⊥
LeavesRun faults.Memory before after old new wrote = ((after ≡ before) × (new ≡ old)) ⊎ wrote
LeavesRun _ before after old new wrote = wrote

-- ---- the engine over readers: a source and an input are read, whose readers have these bytes left

-- `run` ends with this status
abbrev pub RunEnds : Wants → (source input before after old new : Option (List ℕ)) → ℕ → Type 0
RunEnds w source input before after old new status =
    OfText source
    (λ text. OfText input (λ given. WroteStatus (Running text given w) before after old new status))

-- or with this fault
abbrev pub RunFails : Wants → (source input before after old new : Option (List ℕ))
    → EngineFault → Type 0
RunFails w source input before after old new fault =
    LeavesRun fault before after old new
    (OfText source (λ text.
    OfText input (λ given. WroteRan (Running text given w) before after old new (Err fault))))
