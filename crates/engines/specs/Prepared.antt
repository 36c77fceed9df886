-- What commands begin from: a source's program with its code, and a run of it that a schedule's
-- text describes; or the line that says why there is none.
use Rattle.std.specs.Prelude.{◌≡◌, ◌⊎◌, ℕ, List}
use Rattle.ast.specs.Program.{ProgramTree}
use Rattle.ast.specs.ProgramView.{program as program_of}
use Rattle.ast.specs.declared.rule.Rule.{Rule}
use Rattle.ast.specs.declared.rule.Rule.TheVariants.{LongCode}
use Rattle.codegen.specs.Headline.{Headline}
use Rattle.codegen.specs.Program.{HasLongCode, IsCompiled}
use Rattle.codegen.specs.Reports.{Reports}
use Rattle.machine.specs.Code.{Code}
use Rattle.machine.specs.CodeView.{code_of}
use Rattle.profile_check.specs.Reads.{Reads}
use Rattle.schedules.specs.Refusals.{Refuses}
use Rattle.schedules.specs.Schedules.{SchedText, Schedule}
use Rattle.schedules.specs.declared.flaw.Flaw.{Flaw}
use Rattle.command_output.specs.Shown.{no_schedule, refused}
use Rattle.command_output.specs.declared.outcomes.Outcome.{Outcome}
use Rattle.command_output.specs.declared.outcomes.Outcome.TheVariants.{Refused as RefusedWith}
use Rattle.command_output.specs.declared.outcomes.Outcome.TheVariants.{NoSchedule}
use Rattle.engines.specs.Engines.{IsRefused}
use Rattle.engines.specs.declared.prepared.Coded.{Coded}
use Rattle.engines.specs.declared.prepared.Described.{Described}
use Rattle.engines.specs.declared.prepared.Described.TheVariants as described
use Rattle.engines.specs.declared.prepared.Prepared.{Prepared}
use Rattle.engines.specs.declared.prepared.Prepared.TheVariants as prepared
use Rattle.engines.specs.declared.prepared.Run.{Run}

-- a source reads as a program which has code, and of these this holds
pub record WithCode (source : List ℕ) (P : ProgramTree → Code → Type 0) : Type 0 where
  pub tree : ProgramTree
  pub code : Code
  pub reads : Reads source tree
  pub compiled : IsCompiled tree code
  pub holds : P tree code

-- and a text is a schedule's, and of all three this holds
abbrev pub WithRun : (source schedule : List ℕ) → (ProgramTree → Code → Schedule → Type 0) → Type 0
WithRun source schedule P =
    WithCode source (λ tree code. (x : Schedule) × SchedText x schedule × P tree code x)

-- a source reads as a program whose code would be too long, which is refused so
pub record IsLong (source : List ℕ) (rule : Rule) (line : ℕ) (text : List ℕ) : Type 0 where
  pub tree : ProgramTree
  pub reads : Reads source tree
  pub long : HasLongCode tree
  pub rule_is : rule ≡ LongCode
  pub line_is : line ≡ 0
  pub shown : text ≡ refused rule line

-- a source is refused, by its text or for its code
abbrev pub IsNoCode : List ℕ → Rule → ℕ → List ℕ → Type 0
IsNoCode source rule line text =
    IsRefused source rule line text ⊎ IsLong source rule line text

-- the line that is shown of a source which has no code
abbrev pub IsUncoded : (source : List ℕ) → Outcome → List ℕ → Type 0
IsUncoded source (RefusedWith rule line) text = IsNoCode source rule line text
IsUncoded source _ text = ⊥

-- the line that is shown where a source has no code, or the text is no schedule's
abbrev pub IsNoRun : (source schedule : List ℕ) → Outcome → List ℕ → Type 0
IsNoRun source schedule (NoSchedule flaw line) text =
    WithCode source (λ tree code. Refuses schedule flaw line) × (text ≡ no_schedule flaw line)
IsNoRun source schedule outcome text = IsUncoded source outcome text

-- why a schedule is refused for code and an input: with this flaw, at this line
abbrev pub Reason : Type 1
Reason = Code → List ℕ → Schedule → Flaw → ℕ → Type 0

-- the line that is shown where a run of code is refused so for what its schedule says
abbrev pub IsStop : Reason → Code → (input : List ℕ) → Schedule → Outcome → List ℕ → Type 0
IsStop why code input x (NoSchedule flaw line) text =
    why code input x flaw line × (text ≡ no_schedule flaw line)
IsStop why code input x _ text = ⊥

-- the line that is shown where there is no run, or where its schedule is refused so
abbrev pub IsLine : Reason → (source input schedule : List ℕ) → Outcome → List ℕ → Type 0
IsLine why source input schedule outcome text =
    IsNoRun source schedule outcome text
    ⊎ WithRun source schedule (λ tree code x. IsStop why code input x outcome text)

-- ---- what is prepared

-- these are a source's program, its code and the reports of its loops
pub record IsCoded (source : List ℕ) (x : Coded) : Type 0 where
  pub reads : Reads source (program_of x.program)
  pub compiled : IsCompiled (program_of x.program) (code_of x.code)
  pub headline : Headline (code_of x.code) (program_of x.program)
  pub reports : Reports (program_of x.program) x.reports.items

-- a source is prepared to be this
abbrev pub IsPrepared : List ℕ → Prepared → Type 0
IsPrepared source (prepared.Coded x) = IsCoded source x
IsPrepared source (prepared.Refused page) = IsUncoded source page.outcome page.text.items

-- the run is one of a source's code, by the schedule of a text
pub record IsDescribedRun (source schedule : List ℕ) (x : Run) : Type 0 where
  pub coded : IsCoded source x.coded
  pub spelled : SchedText x.schedule schedule

-- a source and a schedule's text describe this
abbrev pub IsDescribed : (source schedule : List ℕ) → Described → Type 0
IsDescribed source schedule (described.Run x) = IsDescribedRun source schedule x
IsDescribed source schedule (described.Refused page) =
    IsNoRun source schedule page.outcome page.text.items
