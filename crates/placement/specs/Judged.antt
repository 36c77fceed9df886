-- What a loop is by itself, and what placement gives for it.
use Rattle.std.specs.Prelude.{◌≡◌, ◌⊎◌, ℕ, Bool, true, false, List, [], map, Some}
use Rattle.ast.specs.View.{letters}
use Rattle.dependence.specs.Hiding.{hides}
use Rattle.dependence.specs.Kept.{IsNonzero, Suits, block_reads}
use Rattle.dependence.specs.Plan.{PlanTree}
use Rattle.dependence.specs.PlanView.{plan_of}
use Rattle.dependence.specs.declared.plan.LoopPlan.TheVariants.{Serial}
use Rattle.dependence.specs.declared.serial.SerialReason.{SerialReason}
use Rattle.dependence.specs.declared.serial.SerialReason.TheVariants.{NoStep, Reads, SharedVariable}
use Rattle.dependence.specs.declared.serial.SerialReason.TheVariants.{ManySources, Inside, Refused}
use Rattle.loop_tree.specs.Loops.{Loop}
use Rattle.placement.specs.Analysed.{AreAnalysed, AreTriples, HasManySources, triple}
use Rattle.placement.specs.Opening.{NoneSuits}
use Rattle.placement.specs.Placement.{AreSources, IsLowest, IsPlacedBody, SomeEligible}
use Rattle.placement.specs.declared.planning.Judged.{Judged}
use Rattle.placement.specs.declared.planning.Judged.TheVariants as judged
use Rattle.placement.specs.declared.planning.Placed.{Placed}
use Rattle.privatise.specs.Privates.{ArePrivate}

-- the step is a constant other than 0, there is no READ, and these are all private names
pub record IsPlain (l : Loop) (names : List (List ℕ)) : Type 0 where
  pub step : IsNonzero l.step
  pub no_read : block_reads l.body ≡ false
  pub privates : ArePrivate l names

-- Why a loop doesn't suit, by what the code has found of it when it says so.
abbrev pub IsHindered : Loop → SerialReason → Type 0
IsHindered l NoStep = IsNonzero l.step → ⊥
IsHindered l Reads = IsNonzero l.step × (block_reads l.body ≡ true)
IsHindered l SharedVariable = (names : List (List ℕ)) × IsPlain l names × (hides names l ≡ false)
IsHindered l ManySources =
    (names : List (List ℕ)) × IsPlain l names × (hides names l ≡ true) × HasManySources l
IsHindered l Inside = ⊥
IsHindered l Refused = ⊥

-- Why the loop doesn't suit, or, where it suits, its private scalars and what its analysis finds.
abbrev pub IsJudged : Loop → Judged → Type 0
IsJudged l (judged.Serial reason) = IsHindered l reason
IsJudged l (judged.Suits privates analysis) =
    IsPlain l (map letters privates.names.items)
    × (hides (map letters privates.names.items) l ≡ true)
    × AreAnalysed l (map letters privates.names.items) analysis

-- the answer says that the loop suits
abbrev pub suits_by : Judged → Bool
suits_by (judged.Serial reason) = false
suits_by (judged.Suits privates analysis) = true

-- ---- placement

-- whether the loop suits
abbrev pub IsSuiting : Loop → Bool → Type 0
IsSuiting l true = Suits l
IsSuiting l false = Suits l → ⊥

-- The plan opens the loop, and beside it stand its sources and what is kept.
pub record IsOpened (l : Loop) (placed : Placed) : Type 0 where
  pub tree : PlanTree
  pub is : plan_of placed.plan ≡ Some tree
  pub body : IsPlacedBody l tree
  pub sources : AreSources l placed.sources.items
  pub triples : AreTriples l (map triple placed.kept.items)

-- The loop stays serial, for this reason, and beside its plan stand no sources and nothing that is
-- kept.
pub record IsSerial (reason : SerialReason) (placed : Placed) : Type 0 where
  pub plan : placed.plan ≡ Serial reason
  pub sources : placed.sources.items ≡ []
  pub kept : placed.kept.items ≡ []

-- the loop is opened, but where a loop around is open: then it stays serial for that reason
abbrev pub IsOpenedUnless : Bool → Loop → Placed → Type 0
IsOpenedUnless true l placed = IsSerial Inside placed
IsOpenedUnless false l placed = IsOpened l placed

-- What placement gives for a loop of which it is told whether it stands in an open one.
abbrev pub IsPlaced : Loop → Bool → Placed → Type 0
IsPlaced l inside placed =
    ((placed.suits ≡ true) × Suits l × IsOpenedUnless inside l placed)
    ⊎ ((placed.suits ≡ false) × (Suits l → ⊥)
    × ((r : SerialReason) × IsSerial r placed × IsLowest l [] r))

-- whether one of the loops around a loop may be open
abbrev pub IsInside : List Loop → Bool → Type 0
IsInside around true = SomeEligible around
IsInside around false = NoneSuits around
