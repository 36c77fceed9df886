-- Solo steps: how many steps a run with one processor and one open iteration has that ends, not
-- counting parks and the taking up of what was parked.
use Rattle.std.specs.Prelude.{◌≡◌, ℕ, ◌+◌, List, [], ◌∷◌, Some, ◌⊎◌}
use Rattle.ast.specs.declared.fault.End.{End}
use Rattle.machine.specs.Code.{Code}
use Rattle.machine.specs.Frame.{Frame}
use Rattle.machine.specs.State.{State, Machine, Run, CodeRun, Init}
use Rattle.machine.specs.View.{View, view, trips_of, begin}
use Rattle.machine.specs.declared.code.Open.{Open}

-- nothing is parked or taken up that was parked
abbrev pub Still : {F L : Type 0} → State F L → State F L → Type 0
Still m n = (n.parked ≡ m.parked) × (n.waiting ≡ m.waiting)

-- a step counts where nothing is parked or taken up that was parked
abbrev pub Weighs : {F L : Type 0} → State F L → State F L → ℕ → Type 0
Weighs m n b = ((b ≡ 1) × Still m n) ⊎ ((b ≡ 0) × (Still m n → ⊥))

module _ (F L : Type 0) (view : F → View F L) (trips : L → ℕ) (begin : L → ℕ → F) (slots : ℕ) where
  -- how many of a run's steps count
  abbrev pub Weight : (p : ℕ) (m : State F L) (qs : List ℕ) (n : State F L)
      → Run F L view trips begin slots p m qs n → ℕ → Type 0
  Weight p m [] n r w = w ≡ 0
  Weight p m (q ∷ qs) n r w =
      (b : ℕ) × (v : ℕ) × Weighs m r.0 b × Weight p r.0 qs n r.3 v × (w ≡ b + v)

-- a run alone that ends, with so many steps that count
pub record Solo (code : Code) (input : List ℕ) (w : ℕ) : Type 0 where
  pub turns : List ℕ
  pub last : Machine
  pub run : CodeRun code 1 1 (Init code input) turns last
  pub end : End
  pub ended : last.ended ≡ Some end
  pub weight :
      Weight Frame Open (view code) trips_of (begin code) 1 1 (Init code input) turns last run w
