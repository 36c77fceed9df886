-- The kinds of the steps that stand next, so far as the code alone tells them.
use Rattle.std.specs.Prelude.{◌≡◌, ◌+◌, ◌-◌, ℕ, zero, suc, Bool, true, false, List}
use Rattle.std.specs.Prelude.{[], ◌∷◌, length, Option, Some, None, slice_get}
use Rattle.machine.specs.Code.{Code}
use Rattle.machine.specs.Solo.{Still}
use Rattle.machine.specs.declared.instr.Act.{Act}
use Rattle.machine.specs.declared.instr.Act.TheVariants.{Constant, Private, SetPrivate, Index}
use Rattle.machine.specs.declared.instr.Act.TheVariants.{Binary, Modulo, Greatest, Least, Unary}
use Rattle.machine.specs.declared.instr.Act.TheVariants.{Absolute, Check, Skip, SkipUnless}
use Rattle.machine.specs.declared.instr.Act.TheVariants.{Back, SetUp, CountDown, Step, Load}
use Rattle.machine.specs.declared.instr.Act.TheVariants.{LoadElement, Store, StoreElement}
use Rattle.machine.specs.declared.instr.Instr.{Instr}
use Rattle.activities.specs.Points.{Moves, Point}
use Rattle.activities.specs.declared.kinds.Ahead.{Ahead}

-- the next one is a local instruction, or a load or a store, and leads to this place
abbrev pub local_to : ℕ → Option Ahead
local_to p = Some (record { local = true; next = p })

abbrev pub shared_to : ℕ → Option Ahead
shared_to p = Some (record { local = false; next = p })

-- What is told of an instruction at a place. Where two places may follow, it is said to lead to the
-- end of the code, where nothing is told.
abbrev pub ahead_of : Act → (end place : ℕ) → Option Ahead
ahead_of (Constant v) end p = local_to (p + 1)
ahead_of (Private x) end p = local_to (p + 1)
ahead_of (SetPrivate x) end p = local_to (p + 1)
ahead_of Index end p = local_to (p + 1)
ahead_of (Binary o) end p = local_to (p + 1)
ahead_of Modulo end p = local_to (p + 1)
ahead_of Greatest end p = local_to (p + 1)
ahead_of Least end p = local_to (p + 1)
ahead_of (Unary o) end p = local_to (p + 1)
ahead_of Absolute end p = local_to (p + 1)
ahead_of (Check above d) end p = local_to (p + 1)
ahead_of SetUp end p = local_to (p + 1)
ahead_of Step end p = local_to (p + 1)
ahead_of (Skip n) end p = local_to (p + 1 + n)
ahead_of (Back n) end p = local_to (p - n)
ahead_of (SkipUnless n) end p = local_to end
ahead_of (CountDown n) end p = local_to end
ahead_of (Load x) end p = shared_to (p + 1)
ahead_of (LoadElement x) end p = shared_to (p + 1)
ahead_of (Store x) end p = shared_to (p + 1)
ahead_of (StoreElement x) end p = shared_to (p + 1)
ahead_of _ end p = None

abbrev pub ahead_if : Option Instr → (end place : ℕ) → Option Ahead
ahead_if None end p = None
ahead_if (Some i) end p = ahead_of i.act end p

-- what is told of the instruction at a place
abbrev pub ahead_at : List Instr → ℕ → Option Ahead
ahead_at code p = ahead_if (slice_get code p) (length code) p

-- the kind of a step, and of those behind it
abbrev pub kinds_if : Option Ahead → (ℕ → List Bool) → List Bool
kinds_if None more = []
kinds_if (Some a) more = a.local ∷ more a.next

-- the kinds of so many steps from a place on, at most: whether each is local
abbrev pub kinds : List Instr → (n place : ℕ) → List Bool
kinds code zero p = []
kinds code (suc n) p = kinds_if (ahead_at code p) (λ q. kinds code n q)

-- the code tells so many
abbrev pub IsPath : List Instr → (n place : ℕ) → Type 0
IsPath code n p = length (kinds code n p) ≡ n

-- Processor q makes steps of these kinds, one after another, none of which parks anybody or
-- takes up who was parked.
abbrev pub Makes : Code → ℕ → List Bool → Point → ℕ → Point → Type 0
Makes code s [] a q b = a ≡ b
Makes code s (k ∷ ks) a q b =
    (x : Point) × Moves code s k a q x × Still a.machine x.machine × Makes code s ks x q b
