-- What `run` comes to where no schedule is kept: its records are written while the program runs.
use Rattle.std.specs.Prelude.{◌≡◌, ◌⊎◌, ℕ, Bool, List, Option, None, Result, Ok, Err, Vec, drop}
use Rattle.std.specs.Global.{Global}
use Rattle.std.specs.Io.KnownBytes.{Appends}
use Rattle.std.specs.declared.alloc.AllocError.{AllocError}
use Rattle.ast.specs.Meaning.{seq}
use Rattle.ast.specs.Program.{ProgramTree}
use Rattle.ast.specs.Symbols.{Symbol}
use Rattle.ast.specs.declared.answer.Answer.{Answer}
use Rattle.machine.specs.State.{AreSizes}
use Rattle.record_writer.specs.Written.{Begins, FallsShort}
use Rattle.command_output.specs.declared.fault.EngineFault.{EngineFault}
use Rattle.command_output.specs.declared.fault.EngineFault.TheVariants as faults
use Rattle.command_output.specs.declared.outcomes.Outcome.{Outcome}
use Rattle.processors.specs.declared.report.RunRefusal.{RunRefusal}
use Rattle.engines.specs.Engines.{ShowsRun, Works, Wrote, WrotePart}
use Rattle.engines.specs.Prepared.{IsUncoded, WithCode}
use Rattle.engines.specs.declared.given.Wants.{Wants}
use Rattle.threaded.specs.Running.{IsRefusal, Shows, WritesText}
use Rattle.threaded.specs.declared.ran.Ran.{Ran}
use Rattle.threaded.specs.declared.ran.Ran.TheVariants.{Refused, Whole as Came, Memory}
use Rattle.threaded.specs.declared.ran.Ran.TheVariants.{OutOfRange, NotStarted, Stuck}

-- the writer's bytes grew by what is so much of what the program prints
abbrev pub Prints : (So : List ℕ → List ℕ → Type 0) → ProgramTree → (input : List ℕ)
    → (old new : Option (List ℕ)) → Type 0
Prints So tree input old new = (got : List ℕ) × Appends old new got × So got (seq tree input).output

-- What a run of a program writes: what is shown of the sequential program's run; where writing
-- failed part of that, or not all of the records; where memory was refused a beginning of the
-- records; and where there is no run nothing.
abbrev pub StreamsCode : ProgramTree → (input : List ℕ) → Wants → (old new : Option (List ℕ))
    → Result Outcome EngineFault → Type 0
StreamsCode tree input w old new (Ok outcome) =
    AreSizes w.processors w.slots × Wrote (ShowsRun w.store tree input) old new outcome
StreamsCode tree input w old new (Err (faults.Writing e)) =
    AreSizes w.processors w.slots
    × (WrotePart (ShowsRun w.store tree input) old new ⊎ Prints FallsShort tree input old new)
StreamsCode tree input w old new (Err faults.Memory) = Prints Begins tree input old new
StreamsCode tree input w old new (Err faults.OutOfRange) =
    (AreSizes w.processors w.slots → ⊥) × (new ≡ old)
StreamsCode tree input w old new (Err faults.NotStarted) =
    AreSizes w.processors w.slots × (new ≡ old)
StreamsCode tree input w old new (Err _) = ⊥

-- The same of a source. Where it is refused, by its text or for its code, that is written, and
-- where there is no memory to find that out nothing.
abbrev pub StreamsRun : (source input : List ℕ) → Wants → (old new : Option (List ℕ))
    → Result Outcome EngineFault → Type 0
StreamsRun source input w old new result =
    WithCode source (λ tree code. StreamsCode tree input w old new result)
    ⊎ Works (IsUncoded source) old new result

-- no text of a schedule is wanted
abbrev pub no_text : Result (Option (Vec ℕ Global)) AllocError
no_text = Ok None

-- what comes of a run that came to an answer, or to none
abbrev pub ShowsCame : (store : Bool) → List Symbol → Result Answer RunRefusal → Ran → Type 0
ShowsCame store symbols (Ok answer) ran = Shows store symbols answer no_text ran
ShowsCame store symbols (Err why) ran = IsRefusal why ran

-- What is shown of a run was written, but for so many bytes.
abbrev pub WritesRest : Ran → (shown : ℕ) → (old new : Option (List ℕ))
    → Result Outcome EngineFault → Type 0
WritesRest (Refused page) shown old new result =
    WritesText page.text.items (Ok page.outcome) old new result
WritesRest (Came whole) shown old new result =
    WritesText (drop shown whole.page.text.items) (Ok whole.page.outcome) old new result
WritesRest (Memory output) shown old new result =
    WritesText (drop shown output.items) (Err faults.Memory) old new result
WritesRest OutOfRange shown old new result = (result ≡ Err faults.OutOfRange) × (new ≡ old)
WritesRest (NotStarted failure) shown old new result =
    (result ≡ Err faults.NotStarted) × (new ≡ old)
WritesRest Stuck shown old new result = (result ≡ Err faults.Stuck) × (new ≡ old)
