-- Steps in place of what a processor holds, whose kinds the code alone tells, with their entries.
use Rattle.std.specs.Prelude.{◌≡◌, ℕ, suc, ◌+◌, Bool, true, false, if◌then◌else◌}
use Rattle.std.specs.Prelude.{List, [], ◌∷◌, ◌++◌, length, replicate, take}
use Rattle.std.specs.Coded.{Coded-set, ×_prop, Π_prop, Unit-prop, coded_bool, coded_list, coded_ℕ}
use Rattle.machine.specs.declared.instr.Instr.{Instr}
use Rattle.schedules.specs.Noting.{AllNoted}
use Rattle.schedules.specs.Schedules.{Entry, Schedule}
use Rattle.activities.specs.Activities.{code_in, point_in}
use Rattle.activities.specs.Kinds.{IsPath, Makes, kinds}
use Rattle.activities.specs.declared.holding.Activities.{Activities}
use Rattle.replay.specs.CoreView.{CoreView, point_at}
use Rattle.replay.specs.Tallies.{steps}
use Rattle.replay.specs.declared.legs.Leg.{Leg}
use Rattle.replay.specs.declared.stepped.Tally.{Tally}

-- so many steps whose kinds the code tells lead from one place to another
abbrev pub IsLeg : List Instr → (place n next : ℕ) → Type 0
IsLeg code p n q =
    IsPath code n p × ((m : ℕ) → kinds code (n + m) p ≡ kinds code n p ++ kinds code m q)

-- the same of local ones
pub record IsRun (code : List Instr) (place n next : ℕ) : Type 0 where
  pub leg : IsLeg code place n next
  pub local : kinds code n place ≡ replicate n true

-- a leg at a place is of local steps, or one that is none
abbrev pub kinds_of : Leg → List Bool
kinds_of leg = if leg.shared then false ∷ [] else replicate leg.steps true

abbrev pub IsLegOf : List Instr → ℕ → Leg → Type 0
IsLegOf code p leg = IsLeg code p leg.steps leg.next × (kinds code leg.steps p ≡ kinds_of leg)

-- legs stand from a place on
abbrev pub AllLegs : List Instr → ℕ → List Leg → Type 0
AllLegs code p [] = Unit {0}
AllLegs code p (leg ∷ legs) = IsLegOf code p leg × AllLegs code (suc p) legs

pub Legs-prop : (code : List Instr) (p : ℕ) (legs : List Leg) → IsProp (AllLegs code p legs)
Legs-prop code p [] = Unit-prop
Legs-prop code p (leg ∷ legs) =
    ×_prop
    (×_prop (×_prop (Coded-set coded_ℕ _ _) (Π_prop (λ m. Coded-set (coded_list coded_bool) _ _)))
    (Coded-set (coded_list coded_bool) _ _)) (Legs-prop code (suc p) legs)

-- how many steps entries make
abbrev pub steps_in : List Entry → ℕ
steps_in [] = 0
steps_in (e ∷ es) = steps e.act + steps_in es

-- Of steps that were added last only so many are left, the first ones.
abbrev pub Left : (planned left : ℕ) → Schedule → Schedule → Type 0
Left planned left old new =
    (x : Schedule) (q : ℕ) (ks : List Bool)
    → length ks ≡ planned → AllNoted q ks x old → AllNoted q (take left ks) x new

-- So many steps of processor q were made, and added to the schedule.
pub record IsStrode (q made : ℕ) (a : Activities) (x : Schedule) (t : Tally) (b : Activities)
    (y : Schedule) (u : Tally) : Type 0 where
  pub kinds : List Bool
  pub made_is : length kinds ≡ made
  pub step : Makes (code_in a) x.slots kinds (point_in a) q (point_in b)
  pub schedule : AllNoted q kinds x y
  pub counted : u.made ≡ t.made + made
  pub parked : u.again ≡ t.again

-- The same as the callers of a core see it: each is a local instruction, a load or a store.
pub record Strides (x : CoreView) (q made : ℕ) (y : CoreView) : Type 0 where
  pub kinds : List Bool
  pub made_is : length kinds ≡ made
  pub code_is : y.code ≡ x.code
  pub input_is : y.input ≡ x.input
  pub version : y.schedule.version ≡ x.schedule.version
  pub processors : y.schedule.processors ≡ x.schedule.processors
  pub slots : y.schedule.slots ≡ x.schedule.slots
  pub schedule : AllNoted q kinds x.schedule y.schedule
  pub step : Makes x.code x.schedule.slots kinds (point_at x) q (point_at y)
