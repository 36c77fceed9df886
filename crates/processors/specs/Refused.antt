-- Why a call of `run` gives no report.
use Rattle.std.specs.Prelude.{◌≡◌, ◌⊎◌, ⊤, ◌<◌, ℕ, List, Option, Some, None}
use Rattle.machine.specs.Code.{Code}
use Rattle.machine.specs.State.{AreSizes, CodeStep, Machine}
use Rattle.processors.specs.Calls.{IsOutputOf, IsStateOf}
use Rattle.processors.specs.declared.report.RunRefusal.{RunRefusal}
use Rattle.processors.specs.declared.report.RunRefusal.TheVariants.{Memory, OutOfRange}
use Rattle.processors.specs.declared.report.RunRefusal.TheVariants.{NotStarted, Stuck}

-- the number of a refusal
abbrev pub refusal_number : RunRefusal → Option ℕ
refusal_number (Memory output) = None
refusal_number OutOfRange = Some 57
refusal_number (NotStarted failure) = Some 58
refusal_number Stuck = Some 59

-- The run hasn't ended, and no processor has a step.
abbrev pub IsStuckAt : Code → (p s : ℕ) → Machine → Type 0
IsStuckAt code p s m =
    (m.ended ≡ None) × ((q : ℕ) (n : Machine) → q < p → CodeStep code s m q n → ⊥)

-- A run that was begun was given up: for want of memory, with the output of a state to which it
-- leads, or of a thread; or it leads to a state from which no step leads, and which hasn't ended.
abbrev pub IsGivenUp : Code → List ℕ → ℕ → ℕ → RunRefusal → Type 0
IsGivenUp code input p s (Memory output) = IsOutputOf code input p s output.items
IsGivenUp code input p s OutOfRange = ⊥
IsGivenUp code input p s (NotStarted failure) = ⊤
IsGivenUp code input p s Stuck = IsStateOf code input p s (IsStuckAt code p s)

-- One of the numbers is out of its range.
abbrev pub IsOutOfRange : ℕ → ℕ → RunRefusal → Type 0
IsOutOfRange p s OutOfRange = AreSizes p s → ⊥
IsOutOfRange p s _ = ⊥

-- The numbers are out of range, or the run was begun.
abbrev pub IsRefused : Code → List ℕ → ℕ → ℕ → RunRefusal → Type 0
IsRefused code input p s why = IsOutOfRange p s why ⊎ (AreSizes p s × IsGivenUp code input p s why)
