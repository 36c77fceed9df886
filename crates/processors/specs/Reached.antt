-- What a run comes to of which no schedule is kept.
use Rattle.std.specs.Prelude.{◌≡◌, ◌⊎◌, ⊤, ℕ, List}
use Rattle.ast.specs.declared.answer.Answer.{Answer}
use Rattle.machine.specs.Code.{Code}
use Rattle.machine.specs.State.{AreSizes, Machine}
use Rattle.replay.specs.Replayed.{IsAnswer}
use Rattle.unrecorded.specs.View.{IsReached, RunView}
use Rattle.processors.specs.Refused.{IsOutOfRange, IsStuckAt}
use Rattle.processors.specs.declared.report.RunRefusal.{RunRefusal}
use Rattle.processors.specs.declared.report.RunRefusal.TheVariants.{Memory, OutOfRange}
use Rattle.processors.specs.declared.report.RunRefusal.TheVariants.{NotStarted, Stuck}

-- a run of this code on this input, of so many processors and slots
pub record IsRunIn (code : Code) (input : List ℕ) (p s : ℕ) (x : RunView) : Type 0 where
  pub sizes : AreSizes p s
  pub code_is : x.code ≡ code
  pub input_is : x.input ≡ input
  pub processors : x.processors ≡ p
  pub slots : x.slots ≡ s

-- A run of the machine, of so many processors and slots, leads to a state of which this holds.
pub record Reaches (code : Code) (input : List ℕ) (p s : ℕ) (P : Machine → Type 0) : Type 0 where
  pub sizes : AreSizes p s
  pub machine : Machine
  pub reached : IsReached code input p s machine
  pub holds : P machine

-- it leads to a state that has ended with this answer
abbrev pub IsAnswerOf : Code → List ℕ → (p s : ℕ) → Answer → Type 0
IsAnswerOf code input p s answer = Reaches code input p s (λ m. IsAnswer code m answer)

-- A run that was begun was given up: for want of memory, with the output of a state to which it
-- leads, or of a thread; or it leads to a state from which no step leads, and which hasn't ended.
abbrev pub IsLeftAt : Code → List ℕ → (p s : ℕ) → RunRefusal → Type 0
IsLeftAt code input p s (Memory output) = Reaches code input p s (λ m. output.items ≡ m.output)
IsLeftAt code input p s OutOfRange = ⊥
IsLeftAt code input p s (NotStarted failure) = ⊤
IsLeftAt code input p s Stuck = Reaches code input p s (IsStuckAt code p s)

-- The numbers are out of range, or the run was begun.
abbrev pub IsUnanswered : Code → List ℕ → (p s : ℕ) → RunRefusal → Type 0
IsUnanswered code input p s why =
    IsOutOfRange p s why ⊎ (AreSizes p s × IsLeftAt code input p s why)
