-- A run without a record, as its callers see it.
use Rattle.std.specs.Prelude.{◌≡◌, ℕ, Bool, true, false, List, Some, None}
use Rattle.ast.specs.declared.fault.End.{End}
use Rattle.machine.specs.Code.{Code}
use Rattle.machine.specs.State.{AreSizes, Choice, CodeRun, Init, Machine}
use Rattle.activities.specs.Parts.{Kept, point_of}
use Rattle.activities.specs.Points.{Moves, NoLocal, Picks, Point, Proceeds, Steps, beginning}

-- its code and input, how many processors and slots there are, and what it keeps
pub record RunView : Type 0 where
  pub code : Code
  pub input : List ℕ
  pub processors : ℕ
  pub slots : ℕ
  pub kept : Kept

-- where it is
abbrev pub point_at : RunView → Point
point_at x = point_of x.code.variables x.slots x.kept

-- the run has ended
abbrev pub HasEnded : RunView → Type 0
HasEnded x = (e : End) × ((point_at x).machine.ended ≡ Some e)

-- the run hasn't ended
abbrev pub IsGoing : RunView → Type 0
IsGoing x = (point_at x).machine.ended ≡ None

-- A run of the machine, of so many processors and slots, leads from the beginning to this state.
pub record IsReached (code : Code) (input : List ℕ) (p s : ℕ) (m : Machine) : Type 0 where
  pub turns : List ℕ
  pub run : CodeRun code s p (Init code input) turns m

-- it leads to where this one is
abbrev pub IsRun : RunView → Type 0
IsRun x = IsReached x.code x.input x.processors x.slots (point_at x).machine

-- nothing has been done
pub record IsNew (code : Code) (input : List ℕ) (p s : ℕ) (x : RunView) : Type 0 where
  pub sizes : AreSizes p s
  pub code_is : x.code ≡ code
  pub input_is : x.input ≡ input
  pub processors : x.processors ≡ p
  pub slots : x.slots ≡ s
  pub point : point_at x ≡ beginning code input s

-- code, input, processors and slots are as before
pub record IsSameRun (x y : RunView) : Type 0 where
  pub code_is : y.code ≡ x.code
  pub input_is : y.input ≡ x.input
  pub processors : y.processors ≡ x.processors
  pub slots : y.slots ≡ x.slots

-- A step was made; or it can't be made, and nothing has changed.
abbrev pub Did : Bool → (Point → Point → Type 0) → RunView → RunView → Type 0
Did true Step x y = IsSameRun x y × Step (point_at x) (point_at y)
Did false Step x y = (y ≡ x) × ((b : Point) → Step (point_at x) b → ⊥)

-- the shared step of what processor q holds
abbrev pub Shares : Bool → RunView → ℕ → RunView → Type 0
Shares did x q y = Did did (λ a b. Moves x.code x.slots false a q b) x y

-- Processor q makes the local instruction that stands next; or none does, and the run stands where
-- it stood.
abbrev pub Labours : Bool → RunView → ℕ → RunView → Type 0
Labours true x q y = IsSameRun x y × Moves x.code x.slots true (point_at x) q (point_at y)
Labours false x q y =
    IsSameRun x y × (point_at y ≡ point_at x) × NoLocal x.code x.slots (point_at x) q

-- processor q takes this up
abbrev pub TakesUp : Bool → RunView → ℕ → Choice → RunView → Type 0
TakesUp did x q c y = Did did (λ a b. Picks x.code x.slots c a q b) x y

-- processor q makes so many steps of what it holds
abbrev pub Drives : RunView → ℕ → ℕ → RunView → Type 0
Drives x q n y = IsSameRun x y × Steps x.code x.slots n (point_at x) q (point_at y)

-- processor q does so much, and takes tickets among that only if iterations may be begun
abbrev pub GoesOn : (begins : Bool) → RunView → ℕ → ℕ → RunView → Type 0
GoesOn begins x q n y = IsSameRun x y × Proceeds begins x.code x.slots n (point_at x) q (point_at y)
