-- What the compiler, the machine and its runs promise together, of code that `compile` gives.
use Rattle.std.specs.Prelude.{◌≡◌, ◌<◌, ◌⊎◌, ℕ, List}
use Rattle.ast.specs.Meaning.{seq}
use Rattle.ast.specs.Program.{ProgramTree}
use Rattle.ast.specs.Symbols.{cells_of}
use Rattle.ast.specs.View.{cells}
use Rattle.ast.specs.declared.answer.Answer.{Answer}
use Rattle.ast.specs.declared.fault.End.TheVariants.{Done}
use Rattle.codegen.specs.Headline.{Headline}
use Rattle.codegen.specs.Program.{IsCompiled}
use Rattle.machine.specs.Code.{Code}
use Rattle.processors.specs.Calls.{IsRunOf}
use Rattle.processors.specs.Reached.{IsAnswerOf, IsUnanswered}
use Rattle.processors.specs.Refused.{IsRefused}
use Rattle.processors.specs.declared.report.RunRefusal.TheVariants.{Stuck}
use Rattle.replay.specs.CoreView.{CoreView}
use Rattle.replay.specs.Replayed.{IsReplay}
use Rattle.replay.specs.Stepping.{HasLocal, IsGoing, IsWent, WentOrLocal}
use Rattle.replay.specs.declared.stepped.Stepped.{Stepped}
use Rattle.schedules.specs.Schedules.{IsSchedule, Schedule}

-- what `compile` promises of the code that it gives for a program
abbrev pub IsGiven : ProgramTree → Code → Type 0
IsGiven t code = IsCompiled t code × Headline code t

-- An answer is the sequential program's: its output and its end, and, where
-- that is Done, its store.
pub record IsSequential (t : ProgramTree) (input : List ℕ) (answer : Answer) : Type 0 where
  pub output : answer.output.items ≡ (seq t input).output
  pub end : answer.end ≡ (seq t input).end
  pub store : answer.end ≡ Done → cells answer.store ≡ cells_of t.symbols (seq t input).store

-- What `replay` answers is the sequential program's.
abbrev pub ReplaysAreSequential : Type 0
ReplaysAreSequential =
    (t : ProgramTree) (code : Code) (input : List ℕ) (x : Schedule) (answer : Answer)
    → IsGiven t code → IsSchedule x → IsReplay code input x answer → IsSequential t input answer

-- So is what `run` answers, with a schedule and without one.
abbrev pub RunsAreSequential : Type 0
RunsAreSequential =
    (t : ProgramTree) (code : Code) (input : List ℕ) (p s : ℕ) (answer : Answer) (x : Schedule)
    → IsGiven t code → IsRunOf code input p s answer x → IsSequential t input answer

abbrev pub AnswersAreSequential : Type 0
AnswersAreSequential =
    (t : ProgramTree) (code : Code) (input : List ℕ) (p s : ℕ) (answer : Answer) → IsGiven t code
    → IsAnswerOf code input p s answer → IsSequential t input answer

-- Neither answers 59.
abbrev pub NoRunIsStuck : Type 0
NoRunIsStuck =
    (t : ProgramTree) (code : Code) (input : List ℕ) (p s : ℕ)
    → IsGiven t code → IsRefused code input p s Stuck → ⊥

abbrev pub NoAnswerIsStuck : Type 0
NoAnswerIsStuck =
    (t : ProgramTree) (code : Code) (input : List ℕ) (p s : ℕ)
    → IsGiven t code → IsUnanswered code input p s Stuck → ⊥

-- There is a processor whose `step` answers Went, or of which a local instruction stands next.
abbrev pub SomeGoes : CoreView → Type 0
SomeGoes x =
    (q : ℕ) × (q < x.schedule.processors)
    × ((answer : Stepped) → WentOrLocal x q answer → IsWent answer ⊎ HasLocal x q)

-- So it is of a core that runs a program's code, as long as the run hasn't ended.
abbrev pub GoesOn : CoreView → Type 0
GoesOn x = (t : ProgramTree) → IsGiven t x.code → IsGoing x → SomeGoes x
