-- What the engines do: which bytes they may write of a source text, and with which outcome.
use Rattle.std.specs.Prelude.{◌≡◌, ◌⊎◌, ℕ, Bool, true, false, List, ⊤, Option, Result, Ok, Err, Vec}
use Rattle.std.specs.Global.{Global}
use Rattle.std.specs.Io.KnownBytes.{Appends, IsAtEnd, Keeps}
use Rattle.ast.specs.Meaning.{seq}
use Rattle.ast.specs.Program.{ProgramTree}
use Rattle.ast.specs.ProgramView.{program as program_of}
use Rattle.ast.specs.declared.fault.Fault.TheVariants as kinds
use Rattle.ast.specs.declared.rule.Rule.{Rule}
use Rattle.record_writer.specs.Written.{AppendsPart, Begins, FallsShort}
use Rattle.profile_check.specs.Causes.{Refuses}
use Rattle.profile_check.specs.Reads.{Reads}
use Rattle.ast.specs.Symbols.{Symbol}
use Rattle.ast.specs.View.{cells}
use Rattle.interpreter.specs.declared.run_end.RunEnd.{RunEnd}
use Rattle.interpreter.specs.declared.run_end.RunFault.{RunFault}
use Rattle.interpreter.specs.declared.run_end.RunFault.TheVariants as run_faults
use Rattle.command_output.specs.Outcomes.{outcome_of, status_of}
use Rattle.command_output.specs.Reading.{Gives, OfText}
use Rattle.command_output.specs.Shown.{accepted, refused, EndShown, Shown}
use Rattle.command_output.specs.Status.{number_of}
use Rattle.command_output.specs.View.{rows_from}
use Rattle.command_output.specs.declared.fault.EngineFault.{EngineFault}
use Rattle.command_output.specs.declared.fault.EngineFault.TheVariants.{Source, Input, Schedule}
use Rattle.command_output.specs.declared.fault.EngineFault.TheVariants.{Writing, Memory, OutOfRange}
use Rattle.command_output.specs.declared.fault.EngineFault.TheVariants.{NotStarted, Stuck}
use Rattle.command_output.specs.declared.fault.ReadFault.{ReadFault}
use Rattle.command_output.specs.declared.outcomes.Outcome.{Outcome}
use Rattle.command_output.specs.declared.outcomes.Outcome.TheVariants.{Completed, Refused}
use Rattle.command_output.specs.declared.outcomes.Outcome.TheVariants.{Faulted, NoSchedule}
use Rattle.engines.specs.declared.given.Given.{Given}
use Rattle.engines.specs.declared.verdict.Verdict.{Verdict}
use Rattle.engines.specs.declared.verdict.Verdict.TheVariants as verdict

-- the source reads as a program, and this is its line
pub record IsAccepted (source text : List ℕ) : Type 0 where
  pub tree : ProgramTree
  pub reads : Reads source tree
  pub line : text ≡ accepted tree

-- the source reads as no program, and the rule is broken at the line
pub record IsRefusal (source : List ℕ) (rule : Rule) (line : ℕ) : Type 0 where
  pub unread : (tree : ProgramTree) → Reads source tree → ⊥
  pub cause : Refuses source rule line

-- a source is what its verdict says
abbrev pub IsVerdict : List ℕ → Verdict → Type 0
IsVerdict source (verdict.Accepted program) = Reads source (program_of program)
IsVerdict source (verdict.Refused rule line) = IsRefusal source rule line

-- some source has the verdict
abbrev pub IsJudged : Verdict → Type 0
IsJudged v = (source : List ℕ) × IsVerdict source v

-- what `check` may write of a verdict
abbrev pub Tells : Verdict → Outcome → List ℕ → Type 0
Tells (verdict.Accepted program) Completed text = text ≡ accepted (program_of program)
Tells (verdict.Refused rule line) (Refused r l) text =
    (r ≡ rule) × (l ≡ line) × (text ≡ refused rule line)
Tells _ _ text = ⊥

-- the source is refused so, and this is its line
pub record IsRefused (source : List ℕ) (rule : Rule) (line : ℕ) (text : List ℕ) : Type 0 where
  pub refusal : IsRefusal source rule line
  pub shown : text ≡ refused rule line

-- what `check` may write of a source text
abbrev pub Checks : List ℕ → Outcome → List ℕ → Type 0
Checks source Completed text = IsAccepted source text
Checks source (Refused rule line) text = IsRefused source rule line text
Checks source (Faulted fault line) text = ⊥
Checks source (NoSchedule flaw line) text = ⊥

-- the program's run on the input has this outcome, and this is shown of it
pub record ShowsRun (store : Bool) (tree : ProgramTree) (input : List ℕ) (outcome : Outcome)
    (text : List ℕ) : Type 0 where
  pub ended : outcome ≡ outcome_of (seq tree input).end
  pub shown : Shown store tree.symbols (seq tree input).output (seq tree input).end
      (seq tree input).store text

-- the source reads as a program whose run on the input has this outcome, and this is shown of it
pub record IsRun (store : Bool) (source input : List ℕ) (outcome : Outcome)
    (text : List ℕ) : Type 0 where
  pub tree : ProgramTree
  pub reads : Reads source tree
  pub run : ShowsRun store tree input outcome text

-- what `seq` may write of a source text and an input
abbrev pub Runs : Bool → List ℕ → List ℕ → Outcome → List ℕ → Type 0
Runs store source input Completed text = IsRun store source input Completed text
Runs store source input (Refused rule line) text = IsRefused source rule line text
Runs store source input (Faulted fault line) text =
    IsRun store source input (Faulted fault line) text
Runs store source input (NoSchedule flaw line) text = ⊥

-- the writer's bytes grew by a text that an outcome allows
pub record Wrote (allows : Outcome → List ℕ → Type 0) (old new : Option (List ℕ))
    (outcome : Outcome) : Type 0 where
  pub text : List ℕ
  pub allowed : allows outcome text
  pub grown : Appends old new text

-- the same, of an outcome whose status has this number
pub record WroteAs (allows : Outcome → List ℕ → Type 0) (old new : Option (List ℕ))
    (status : ℕ) : Type 0 where
  pub outcome : Outcome
  pub is : status ≡ number_of (status_of outcome)
  pub wrote : Wrote allows old new outcome

-- the writer's bytes grew by a beginning of a text that some outcome allows, not by all of it
pub record WrotePart (allows : Outcome → List ℕ → Type 0) (old new : Option (List ℕ)) : Type 0 where
  pub outcome : Outcome
  pub text : List ℕ
  pub allowed : allows outcome text
  pub grown : AppendsPart old new text

-- what a fault leaves: part of an allowed text where writing failed, and nothing where reading
-- failed or memory was refused
abbrev pub Leaves : EngineFault → Option (List ℕ) → Option (List ℕ) → Type 0 → Type 0
Leaves (Source e) old new part = Keeps old new
Leaves (Input e) old new part = Keeps old new
Leaves (Schedule e) old new part = Keeps old new
Leaves (Writing e) old new part = part
Leaves Memory old new part = Keeps old new
Leaves OutOfRange old new part = ⊥
Leaves NotStarted old new part = ⊥
Leaves Stuck old new part = ⊥

-- the same of an engine that reads a source alone
abbrev pub LeavesOfSource : EngineFault → Option (List ℕ) → Option (List ℕ) → Type 0 → Type 0
LeavesOfSource (Source e) old new part = Keeps old new
LeavesOfSource (Input e) old new part = ⊥
LeavesOfSource (Schedule e) old new part = ⊥
LeavesOfSource (Writing e) old new part = part
LeavesOfSource Memory old new part = Keeps old new
LeavesOfSource OutOfRange old new part = ⊥
LeavesOfSource NotStarted old new part = ⊥
LeavesOfSource Stuck old new part = ⊥

-- where a fault leaves the readers of a source and an input: that of the source has left the input
-- alone, and any other but want of memory comes when the readers before it have given all
abbrev pub LeavesReaders : EngineFault → Option (List ℕ) → Option (List ℕ)
    → Option (List ℕ) → Type 0
LeavesReaders (Source e) source old new = new ≡ old
LeavesReaders (Input e) source old new = IsAtEnd source
LeavesReaders (Schedule e) source old new = ⊥
LeavesReaders (Writing e) source old new = IsAtEnd source × IsAtEnd new
LeavesReaders Memory source old new = ⊤
LeavesReaders OutOfRange source old new = IsAtEnd source × IsAtEnd new
LeavesReaders NotStarted source old new = IsAtEnd source × IsAtEnd new
LeavesReaders Stuck source old new = IsAtEnd source × IsAtEnd new

-- the same of an engine that reads a source alone
abbrev pub LeavesReader : EngineFault → Option (List ℕ) → Type 0
LeavesReader (Writing e) source = IsAtEnd source
LeavesReader fault source = ⊤

-- what work on texts that were read comes to: an outcome with an allowed text written; part of one
-- where writing failed; nothing where memory was refused. No fault of reading comes of it.
abbrev pub Works : (Outcome → List ℕ → Type 0) → Option (List ℕ) → Option (List ℕ)
    → Result Outcome EngineFault → Type 0
Works allows old new (Ok outcome) = Wrote allows old new outcome
Works allows old new (Err (Writing e)) = WrotePart allows old new
Works allows old new (Err Memory) = Keeps old new
Works allows old new (Err _) = ⊥

-- what follows the records of a run with this ending
abbrev pub FollowsRecords : Bool → List Symbol → RunEnd → Outcome → List ℕ → Type 0
FollowsRecords store symbols ended outcome text =
    (outcome ≡ outcome_of ended.end)
    × EndShown store (rows_from (cells ended.store) 0 symbols) ended.end text

-- the fault of a run that came to no end
abbrev pub engine_fault : RunFault → EngineFault
engine_fault run_faults.Memory = Memory
engine_fault (run_faults.Writing e) = Writing e

-- the source reads as a program, and the writer's bytes grew by what is so much of what its run on
-- the input prints
pub record Grew (So : List ℕ → List ℕ → Type 0) (source input : List ℕ)
    (old new : Option (List ℕ)) : Type 0 where
  pub tree : ProgramTree
  pub reads : Reads source tree
  pub got : List ℕ
  pub so : So got (seq tree input).output
  pub grown : Appends old new got

-- by a beginning of it, or all; and by a beginning of which something is missing
abbrev pub Began : List ℕ → List ℕ → Option (List ℕ) → Option (List ℕ) → Type 0
Began = Grew Begins

-- by a beginning of the records, of which something is missing
abbrev pub FellShort : List ℕ → List ℕ → Option (List ℕ) → Option (List ℕ) → Type 0
FellShort = Grew FallsShort

-- What `seq` comes to, whose records are written while the program runs: an outcome with an allowed
-- text written; where writing failed part of one, or not all of the records; where memory was
-- refused nothing, or a beginning of the records. No fault of reading comes of it.
abbrev pub Streaming : Bool → List ℕ → List ℕ → Option (List ℕ) → Option (List ℕ)
    → Result Outcome EngineFault → Type 0
Streaming store source input old new (Ok outcome) = Wrote (Runs store source input) old new outcome
Streaming store source input old new (Err (Writing e)) =
    WrotePart (Runs store source input) old new ⊎ FellShort source input old new
Streaming store source input old new (Err Memory) = Keeps old new ⊎ Began source input old new
Streaming store source input old new (Err _) = ⊥

-- the same of `seq` that reads its input first, of which nothing is written where that fails
abbrev pub StreamingWith : Option (List ℕ) → Bool → List ℕ → Option (List ℕ)
    → Option (List ℕ) → Result Outcome EngineFault → Type 0
StreamingWith input store source old new (Ok outcome) =
    OfText input (λ given. Wrote (Runs store source given) old new outcome)
StreamingWith input store source old new (Err (Source e)) = ⊥
StreamingWith input store source old new (Err (Input e)) = Keeps old new
StreamingWith input store source old new (Err (Schedule e)) = ⊥
StreamingWith input store source old new (Err (Writing e)) =
    OfText input
    (λ given. WrotePart (Runs store source given) old new ⊎ FellShort source given old new)
StreamingWith input store source old new (Err Memory) =
    Keeps old new ⊎ OfText input (λ given. Began source given old new)
StreamingWith input store source old new (Err OutOfRange) = ⊥
StreamingWith input store source old new (Err NotStarted) = ⊥
StreamingWith input store source old new (Err Stuck) = ⊥

-- what a fault of `seq` leaves: part of an allowed text or not all of the records where writing
-- failed; nothing or a beginning of the records where memory was refused; nothing where reading
-- failed
abbrev pub LeavesSeq : EngineFault → Option (List ℕ) → Option (List ℕ)
    → (part began : Type 0) → Type 0
LeavesSeq (Source e) old new part began = Keeps old new
LeavesSeq (Input e) old new part began = Keeps old new
LeavesSeq (Schedule e) old new part began = ⊥
LeavesSeq (Writing e) old new part began = part
LeavesSeq Memory old new part began = Keeps old new ⊎ began
LeavesSeq OutOfRange old new part began = ⊥
LeavesSeq NotStarted old new part began = ⊥
LeavesSeq Stuck old new part began = ⊥

-- what comes after a read: where it failed its fault, with nothing written; otherwise what is made
-- of its bytes
abbrev pub AfterRead : Result (Vec ℕ Global) ReadFault → (ReadFault → EngineFault) → Option (List ℕ)
    → Option (List ℕ) → Result Outcome EngineFault → (List ℕ → Type 0) → Type 0
AfterRead (Err fault) comes_to old new result made = (result ≡ Err (comes_to fault)) × Keeps old new
AfterRead (Ok bytes) comes_to old new result made = made bytes.items

-- what reading an input comes to after a source: no fault is its
abbrev pub AfterGiven : (source : List ℕ) (old new : Option (List ℕ))
    → Result Given EngineFault → Type 0
AfterGiven source old new (Ok given) =
    (given.source.items ≡ source) × Gives old given.input.items × IsAtEnd new
AfterGiven source old new (Err (Input e)) = ⊤
AfterGiven source old new (Err Memory) = ⊤
AfterGiven source old new (Err _) = ⊥

-- the sequential run tells more of what a run came to: which subscript, or which record of the
-- input
abbrev pub wants_run : Result Outcome EngineFault → Bool
wants_run (Ok (Faulted kinds.Index line)) = true
wants_run (Ok (Faulted kinds.EndOfInput line)) = true
wants_run (Ok (Faulted kinds.BadInput line)) = true
wants_run _ = false

-- ---- engines over readers: a source is read, or a source and an input, whose readers have these
-- bytes left, and a writer's bytes go from `old` to `new`

-- an engine of a source ends with this status: what is allowed of the text is written
abbrev pub EndsOfSource : (List ℕ → Outcome → List ℕ → Type 0)
    → (source old new : Option (List ℕ)) → ℕ → Type 0
EndsOfSource allows source old new status =
    OfText source (λ text. WroteAs (allows text) old new status)

-- or with this fault
abbrev pub FailsOfSource : (List ℕ → Outcome → List ℕ → Type 0) → (source old new : Option (List ℕ))
    → EngineFault → Type 0
FailsOfSource allows source old new fault =
    LeavesOfSource fault old new (OfText source (λ text. WrotePart (allows text) old new))

-- `seq` ends with this status
abbrev pub SeqEnds : (store : Bool) → (source input old new : Option (List ℕ)) → ℕ → Type 0
SeqEnds store source input old new status =
    OfText source (λ text. OfText input (λ given. WroteAs (Runs store text given) old new status))

-- or with this fault
abbrev pub SeqFails : (store : Bool) → (source input old new : Option (List ℕ))
    → EngineFault → Type 0
SeqFails store source input old new fault =
    LeavesSeq fault old new
    (OfText source (λ text. OfText input
    (λ given. WrotePart (Runs store text given) old new ⊎ FellShort text given old new)))
    (OfText source (λ text. OfText input (λ given. Began text given old new)))
