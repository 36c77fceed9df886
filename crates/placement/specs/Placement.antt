-- The plan of a loop, by what is kept of its dependences.
use Rattle.std.specs.Prelude.{◌≡◌, ◌<◌, ◌⊎◌, ◌==◌, ◌+◌, nat_lt, ℕ, zero, suc, Bool, true, not, ◌&&◌}
use Rattle.std.specs.Prelude.{◌||◌, List, [], ◌∷◌, ◌++◌, length, Option, Some, None, if◌then◌else◌}
use Rattle.std.specs.List.{Contains, list_any}
use Rattle.ast.specs.Store.{same_name}
use Rattle.ast.specs.Tree.{Ref}
use Rattle.dependence.specs.Kept.{EligibleIn, IsNonzero, Kept, block_reads}
use Rattle.dependence.specs.Kept.{block_variables, most_events}
use Rattle.dependence.specs.Plan.{PlanTree}
use Rattle.dependence.specs.PlanView.{plan_of}
use Rattle.dependence.specs.Serial.{number_of}
use Rattle.dependence.specs.Tests.{relation}
use Rattle.dependence.specs.declared.plan.LoopPlan.{LoopPlan}
use Rattle.dependence.specs.declared.plan.LoopPlan.TheVariants.{Serial, Body}
use Rattle.dependence.specs.declared.relation.Relation.{Relation}
use Rattle.dependence.specs.declared.serial.SerialReason.{SerialReason}
use Rattle.dependence.specs.declared.serial.SerialReason.TheVariants.{NoStep, Reads, SharedVariable}
use Rattle.dependence.specs.declared.serial.SerialReason.TheVariants.{ManySources, Inside, Refused}
use Rattle.loop_tree.specs.Loops.{Loop, loop_around}
use Rattle.loop_tree.specs.Occurrences.{Occurrence}
use Rattle.loop_tree.specs.Private.{Private}
use Rattle.placement.specs.Placing.{placed_block}
use Rattle.privatise.specs.Privates.{ArePrivate}

-- each greater than the one before it
abbrev pub is_ascending : List ℕ → Bool
is_ascending [] = true
is_ascending (x ∷ []) = true
is_ascending (x ∷ y ∷ more) = nat_lt x y && is_ascending (y ∷ more)

-- The statements that are sources of what is kept, in source order; their events have the numbers
-- from 1 on.
pub record AreSources (l : Loop) (ss : List ℕ) : Type 0 where
  pub ascending : is_ascending ss ≡ true
  pub kept : (s : ℕ) → Contains ss s → (t : ℕ) × (d : ℕ) × Kept l s t d
  pub all : (s t d : ℕ) → Kept l s t d → Contains ss s

-- the event of source s has the number e, where that of the first has the number k
abbrev pub IsEvent : ℕ → List ℕ → ℕ → ℕ → Type 0
IsEvent k [] e s = ⊥
IsEvent k (x ∷ more) e s = ((e ≡ k) × (s ≡ x)) ⊎ IsEvent (k + 1) more e s

-- by event, and then by distance
abbrev pub comes_first : ℕ × ℕ → ℕ × ℕ → Bool
comes_first a b = nat_lt a.0 b.0 || ((a.0 == b.0) && nat_lt a.1 b.1)

-- each comes before the one behind it
abbrev pub are_in_order : List (ℕ × ℕ) → Bool
are_in_order [] = true
are_in_order (x ∷ []) = true
are_in_order (x ∷ y ∷ more) = comes_first x y && are_in_order (y ∷ more)

-- What statement t awaits: the events and the distances of what is kept and has t as its sink, each
-- once.
pub record AreAwaits (l : Loop) (sources : List ℕ) (t : ℕ) (awaits : List (ℕ × ℕ)) : Type 0 where
  pub order : are_in_order awaits ≡ true
  pub kept : (e d : ℕ) → Contains awaits (e, d) → (s : ℕ) × IsEvent 1 sources e s × Kept l s t d
  pub all : (s d : ℕ) → Kept l s t d → (e : ℕ) × IsEvent 1 sources e s × Contains awaits (e, d)

-- ---- relations

-- a reference and one in a later iteration have one name, which is neither private nor that of the
-- loop's variable, and one of them gives it a value
abbrev pub is_looked_at : Loop → List (List ℕ) → Occurrence → Occurrence → Bool
is_looked_at l privates a b =
    same_name a.ref.name b.ref.name
    && (not (same_name a.ref.name l.head.variable.name)
    && (not (list_any (λ (n : List ℕ). same_name n a.ref.name) privates)
    && (a.defines || b.defines)))

-- the relations of a reference to others, in order
abbrev pub relations_with : Loop → List (List ℕ) → Occurrence → List Occurrence
    → List (ℕ × ℕ × Relation)
relations_with l privates a [] = []
relations_with l privates a (b ∷ bs) =
    (if is_looked_at l privates a b then (a.ref.id, b.ref.id, relation l a b) ∷ [] else [])
    ++ relations_with l privates a bs

-- of each pair that is looked at, in the order of the references
abbrev pub relations_of : Loop → List (List ℕ) → List Occurrence → List Occurrence
    → List (ℕ × ℕ × Relation)
relations_of l privates [] os = []
relations_of l privates (a ∷ more) os =
    relations_with l privates a os ++ relations_of l privates more os

-- ---- the plan

-- The plan that opens a loop: each event is advanced behind the anchor of its source and in the
-- other arms around it, and each sink awaits what is kept.
pub record IsPlacedBody (l : Loop) (p : PlanTree) : Type 0 where
  pub privates : ArePrivate l p.privates
  pub sources : List ℕ
  pub are_sources : AreSources l sources
  pub before : ℕ → List (ℕ × ℕ)
  pub awaits : (t : ℕ) → AreAwaits l sources t (before t)
  pub body : p.body ≡ placed_block sources before (l.statement + 1) l.body
  pub relations : p.relations ≡ relations_of l p.privates l.references l.references

-- one of these loops may be open; they are given from the innermost on
abbrev pub SomeEligible : List Loop → Type 0
SomeEligible [] = ⊥
SomeEligible (m ∷ around) = EligibleIn m around ⊎ SomeEligible around

-- Why a loop isn't opened: its step is no constant other than 0; it has a READ; the variable of a
-- loop inside isn't private; more than 64 statements are sources; a loop around it may be open. The
-- check of plans refuses none.
abbrev pub Reason : Loop → List Loop → SerialReason → Type 0
Reason l around NoStep = IsNonzero l.step → ⊥
Reason l around Reads = block_reads l.body ≡ true
Reason l around SharedVariable =
    (r : Ref) × Contains (block_variables l.body) r × (Private l r.cell → ⊥)
Reason l around ManySources = (ss : List ℕ) × AreSources l ss × (most_events < length ss)
Reason l around Inside = SomeEligible around
Reason l around Refused = ⊥

-- the lowest that holds
abbrev pub IsLowest : Loop → List Loop → SerialReason → Type 0
IsLowest l around r =
    Reason l around r × ((q : SerialReason) → number_of q < number_of r → Reason l around q → ⊥)

-- a loop around, if there is one, and those around that
abbrev pub with_outer : (Loop → List Loop) → Option Loop → List Loop
with_outer further None = []
with_outer further (Some m) = m ∷ further m

-- the loops around a loop, from the innermost on, n at most
abbrev pub around_in : ℕ → List Loop → Loop → List Loop
around_in zero all l = []
around_in (suc n) all l = with_outer (λ m. around_in n all m) (loop_around all l)

-- the loops around a loop, from the innermost on
abbrev pub loops_around : List Loop → Loop → List Loop
loops_around all l = around_in (length all) all l

-- What placement gives for a loop of a program with these loops.
abbrev pub IsPlacement : List Loop → Loop → LoopPlan → Type 0
IsPlacement all l (Serial reason) = IsLowest l (loops_around all l) reason
IsPlacement all l (Body b privates relations) =
    EligibleIn l (loops_around all l)
    × ((p : PlanTree) × (plan_of (Body b privates relations) ≡ Some p) × IsPlacedBody l p)
