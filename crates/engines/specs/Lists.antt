-- What `list` may write of a source text.
use Rattle.std.specs.Prelude.{◌≡◌, ◌⊎◌, ℕ, Bool, true, false, List, Option, Result, Ok, Err}
use Rattle.std.specs.Io.KnownBytes.{Keeps}
use Rattle.ast.specs.Program.{ProgramTree}
use Rattle.codegen.specs.Program.{IsCompiled}
use Rattle.codegen.specs.Reports.{Reports}
use Rattle.codegen.specs.declared.reports.LoopReport.{LoopReport}
use Rattle.record_writer.specs.Written.{Begins, FallsShort}
use Rattle.machine.specs.Code.{Code}
use Rattle.profile_check.specs.Reads.{Reads}
use Rattle.command_output.specs.declared.fault.EngineFault.{EngineFault}
use Rattle.command_output.specs.declared.fault.EngineFault.TheVariants.{Writing, Memory}
use Rattle.command_output.specs.declared.outcomes.Outcome.{Outcome}
use Rattle.command_output.specs.declared.outcomes.Outcome.TheVariants.{Completed, Refused}
use Rattle.command_output.specs.declared.outcomes.Outcome.TheVariants.{Faulted, NoSchedule}
use Rattle.engines.specs.Engines.{Works, Wrote, WrotePart}
use Rattle.engines.specs.Explained.{GrewBy, StreamsLoops}
use Rattle.engines.specs.Listing.{Lines, LinesWhy, ListingOf}
use Rattle.engines.specs.Prepared.{IsNoCode}
use Rattle.engines.specs.declared.prepared.Prepared.{Prepared}
use Rattle.engines.specs.declared.prepared.Prepared.TheVariants as prepared

-- the source reads as a program that has code, and these are the reports of its loops
pub record IsReported (source : List ℕ) (tree : ProgramTree)
    (reports : List LoopReport) : Type 0 where
  pub reads : Reads source tree
  pub code : Code
  pub compiled : IsCompiled tree code
  pub are : Reports tree reports

-- what `list` may write of a prepared source, of each loop such lines
abbrev pub TellsBy : (ℕ → LoopReport → List ℕ → Type 0) → Prepared → Outcome → List ℕ → Type 0
TellsBy lines (prepared.Coded x) Completed text = ListingOf lines 1 x.reports.items text
TellsBy lines (prepared.Coded x) _ text = ⊥
TellsBy lines (prepared.Refused page) outcome text =
    (outcome ≡ page.outcome) × (text ≡ page.text.items)

-- the source reads as a program that has code, and this lists its loops
pub record IsListedBy (lines : ℕ → LoopReport → List ℕ → Type 0)
    (source text : List ℕ) : Type 0 where
  pub tree : ProgramTree
  pub reports : List LoopReport
  pub reported : IsReported source tree reports
  pub listing : ListingOf lines 1 reports text

-- what `list` may write of a source text, of each loop such lines
abbrev pub ListsBy : (ℕ → LoopReport → List ℕ → Type 0) → List ℕ → Outcome → List ℕ → Type 0
ListsBy lines source Completed text = IsListedBy lines source text
ListsBy lines source (Refused rule line) text = IsNoCode source rule line text
ListsBy lines source (Faulted fault line) text = ⊥
ListsBy lines source (NoSchedule flaw line) text = ⊥

-- what `list` may write of a prepared source without `--why`
abbrev pub TellsLoops : Prepared → Outcome → List ℕ → Type 0
TellsLoops = TellsBy Lines

-- what `list` may write of a source text without `--why`
abbrev pub Lists : List ℕ → Outcome → List ℕ → Type 0
Lists = ListsBy Lines

-- ---- with `--why` lines are written while they are made

-- what `list --why` writes of a prepared source: all that it may; or where writing failed or memory
-- was refused a beginning of the lines of some loops, or of a refusal's
abbrev pub StreamsWhy : Prepared → (old new : Option (List ℕ)) → Result Outcome EngineFault → Type 0
StreamsWhy (prepared.Coded x) old new result = StreamsLoops x.reports.items old new result
StreamsWhy (prepared.Refused page) old new result =
    Works (TellsLoops (prepared.Refused page)) old new result

-- the source reads as a program that has code, and a writer's bytes grew by so much of the lines of
-- some of its loops, from the first on
pub record GrewOf (So : List ℕ → List ℕ → Type 0) (source : List ℕ)
    (old new : Option (List ℕ)) : Type 0 where
  pub tree : ProgramTree
  pub reports : List LoopReport
  pub reported : IsReported source tree reports
  pub grew : GrewBy So reports old new

-- What `list --why` comes to, of a source text: all that it may write; where writing failed part of
-- a refusal's line, or of the lines of some loops; where memory was refused nothing, or a beginning
-- of such lines.
abbrev pub StreamsList : List ℕ → (old new : Option (List ℕ)) → Result Outcome EngineFault → Type 0
StreamsList source old new (Ok outcome) = Wrote (ListsBy LinesWhy source) old new outcome
StreamsList source old new (Err (Writing e)) =
    WrotePart (ListsBy LinesWhy source) old new ⊎ GrewOf FallsShort source old new
StreamsList source old new (Err Memory) = Keeps old new ⊎ GrewOf Begins source old new
StreamsList source old new (Err _) = ⊥

-- what `list` writes of a prepared source, with `--why` or without
abbrev pub WritesLoops : (why : Bool) → Prepared → (old new : Option (List ℕ))
    → Result Outcome EngineFault → Type 0
WritesLoops true x old new result = StreamsWhy x old new result
WritesLoops false x old new result = Works (TellsLoops x) old new result

-- what `list` writes of a source text, with `--why` or without
abbrev pub WritesList : (why : Bool) → List ℕ → (old new : Option (List ℕ))
    → Result Outcome EngineFault → Type 0
WritesList true source old new result = StreamsList source old new result
WritesList false source old new result = Works (Lists source) old new result
