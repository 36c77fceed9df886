-- Where the machine has a step of a processor, a core has one.
use Rattle.std.proofs.Common.{inl, inr, ◌≡◌, ◌∙◌, ◌⊎◌, ℕ, ◌<◌, Bool, true, false, List, length, Option, Some, None, refl, sym, ap, subst, arith}
use Rattle.std.specs.Prelude.{Result, Ok, Err, IfOk, option_map}
use Rattle.std.specs.declared.alloc.AllocError.{AllocError}
use Rattle.std.proofs.lemmas.List.{length-map}
use Rattle.ast.specs.declared.fault.End.{End}
use Rattle.machine.specs.Code.{Code}
use Rattle.machine.specs.Frame.{Frame}
use Rattle.machine.specs.State.{Choice, CodeStep, Machine, Turn, Who}
use Rattle.machine.specs.View.{view, trips_of, begin}
use Rattle.machine.specs.declared.code.Open.{Open}
use Rattle.schedules.specs.Schedules.{Schedule}
use Rattle.activities.specs.Activities.{code_in, frame_at, frame_held, kept_in, who}
use Rattle.activities.specs.Core.{IsCore}
use Rattle.replay.specs.CoreView.{CoreView, point_at}
use Rattle.activities.specs.Points.{Moves, Picks, Point, frame_of, local_in, moved, slot, taken, view_in, wait_of}
use Rattle.replay.specs.Stepping.{CanGo, KeepsGoing, HasLocal, IsWent, WentOrLocal, Steps}
use Rattle.replay.specs.Whole.{AreParts, seen_as}
use Rattle.activities.specs.declared.holding.Activities.{Activities}
use Rattle.activities.specs.declared.holding.Holder.{Holder}
use Rattle.replay.specs.declared.stepped.Stepped.{Stepped}
use Rattle.replay.specs.declared.stepped.Stepped.TheVariants.{Went, Idle, Ended}
use Rattle.replay.specs.declared.stepped.Tally.{Tally}
use Rattle.replay.proofs.Onwards.{rule_picks}

-- a local instruction, a shared step, or a pick
abbrev pub IsOne : Code → ℕ → Point → ℕ → Type 0
IsOne code s a q =
    (local_in code (frame_at q a) ≡ true) ⊎ ((b : Point) × Moves code s false a q b) ⊎ ((c : Choice) × (b : Point) × Picks code s c a q b)

held_one : (code : Code) (s : ℕ) (a : Point) (q : ℕ) (m : Machine) (u : Who) → a.machine.held q ≡ Some u → CodeStep code s a.machine q m → IsOne code s a q
held_one code s a q m u h t = by (local_in code (frame_of a.machine u)) refl
  where
    next : Point
    next = record { machine = m; order = moved (wait_of m u) (view_in code (frame_of a.machine u)) (slot s u) a.order }

    by : (b : Bool) → local_in code (frame_of a.machine u) ≡ b → IsOne code s a q
    by true e = inl (ap (λ (o : Option Who). local_in code (frame_held a.machine o)) h ∙ e)
    by false e = inr (inl (next, record { who = u; holds = h; kind = e; step = t; order = refl }))

-- a step of the machine is one of them
pub step_is_one : (code : Code) (s : ℕ) (a : Point) (q : ℕ) (m : Machine) → CodeStep code s a.machine q m → IsOne code s a q
step_is_one code s a q m t = by (a.machine.held q) refl t.turn
  where
    by : (o : Option Who) → a.machine.held q ≡ o → Turn Frame Open (view code) trips_of (begin code) s o a.machine q m → IsOne code s a q
    by None h u = inr (inr (u.0, record { machine = m; order = taken s u.0 a.order }, record { going = t.going; idle = h; takes = u.1; order = refl }))
    by (Some w) h u = held_one code s a q m w h t

seen_goes_on : (input : List ℕ) (a : Activities) (x : Schedule) (t : Tally) → AreParts a x t → KeepsGoing (seen_as input a x)
seen_goes_on input a x t parts q n may = by (step_is_one (code_in a) x.slots (point_at (seen_as input a x)) q n may.1)
  where
    core : IsCore (code_in a) x.slots (kept_in a)
    core = subst (λ (s : ℕ). IsCore (code_in a) s (kept_in a)) parts.are.slots parts.stand.core

    there : q < length (kept_in a).held
    there = omega (arith, may.0, parts.are.processors, length-map a.held.items (λ (o : Option Holder). option_map who o))

    by : IsOne (code_in a) x.slots (point_at (seen_as input a x)) q → CanGo (seen_as input a x) q
    by (inl h) = inl h
    by (inr (inl h)) = inr (inl h)
    by (inr (inr h)) = inr (inr (rule_picks (code_in a) x.slots q h.0 (kept_in a) h.1 core there h.2))

pub goes_on : (input : List ℕ) (a : Activities) (x : Schedule) (t : Tally) (X : CoreView) → AreParts a x t → seen_as input a x ≡ X → KeepsGoing X
goes_on input a x t X parts e = subst KeepsGoing e (seen_goes_on input a x t parts)

-- what a step answers
pub went : (X Y : CoreView) (q : ℕ) (r : Stepped) → Steps X q r Y → WentOrLocal X q r
went X Y q (Went t) steps n may = inr tt
went X Y q Idle steps n may = by (step_is_one X.code X.schedule.slots (point_at X) q n may.1)
  where
    by : IsOne X.code X.schedule.slots (point_at X) q → HasLocal X q ⊎ IsWent Idle
    by (inl h) = inl h
    by (inr (inl h)) = absurd ((steps.2 may.0).still h.0 h.1)
    by (inr (inr h)) = absurd ((steps.2 may.0).idle h.0 h.1 h.2)
went X Y q Ended steps n may = let z : ◌≡◌ {A = Option End} None (Some steps.1.0) = sym may.1.going ∙ steps.1.1 in cc

pub went_if : (X Y : CoreView) (q : ℕ) (r : Result Stepped AllocError) → IfOk r (λ z. Steps X q z Y) → IfOk r (WentOrLocal X q)
went_if X Y q (Ok z) h = went X Y q z h
went_if X Y q (Err e) h = tt
