-- Steps with their entries.
use Rattle.std.proofs.Common.{inl, ◌≡◌, ◌∙◌, ℕ, ◌+◌, ◌<◌, Bool, true, false, length, get_or, Option, Some, None, refl, sym, ap, subst, arith}
use Rattle.std.specs.Prelude.{◌%◌, ◌==◌, is_some, if◌then◌else◌, option_map}
use Rattle.std.proofs.lemmas.Bool.{eq-eqb, ne_eqb}
use Rattle.std.proofs.lemmas.List.{length-map, get_or_default}
use Rattle.machine.specs.Frame.{Frame}
use Rattle.machine.specs.Local.{locals}
use Rattle.machine.specs.State.{Wait, Who, Choice, take_main, take_iteration, take_ticket}
use Rattle.schedules.specs.Schedules.{works, shares, Schedule, with_entry}
use Rattle.activities.specs.Activities.{AreActivities, code_in, frame_at, kept_in, point_in, who}
use Rattle.replay.specs.Making.{pick_of}
use Rattle.activities.specs.Parts.{held_of, numbered, wait_in}
use Rattle.activities.specs.PartsView.{standing_of, wait}
use Rattle.activities.specs.Points.{Point, Moves, Picks, Works, wait_of}
use Rattle.replay.specs.Tallies.{steps, takes_parked}
use Rattle.replay.specs.Whole.{AreParts, IsMore, IsSame}
use Rattle.activities.specs.declared.holding.Activities.{Activities}
use Rattle.activities.specs.declared.holding.Holder.{Holder}
use Rattle.activities.specs.declared.holding.Holder.TheVariants as holders
use Rattle.activities.specs.declared.parts.Iteration.{Iteration}
use Rattle.activities.specs.declared.parts.Until.{Until}
use Rattle.replay.specs.declared.stepped.Tally.{Tally}
use Rattle.replay.proofs.Parking.{again_pick, again_share, parked_at, works_still}

-- ---- whether an activity is parked

abbrev pub is_there : ℕ → Option Iteration → Bool
is_there k None = false
is_there k (Some a) = if a.number == k then is_some a.wait else false

some_wait : (o : Option Until) → is_some o ≡ is_some (option_map wait o)
some_wait None = refl
some_wait (Some w) = refl

there_is : (k : ℕ) (o : Option Iteration) → is_there k o ≡ is_some (wait_in (numbered k (option_map standing_of o)))
there_is k None = refl
there_is k (Some a) = by (a.number == k) refl
  where
    by : (b : Bool) → (a.number == k) ≡ b → is_there k (Some a) ≡ is_some (wait_in (numbered k (Some (standing_of a))))
    by true e = rw e (some_wait a.wait)
    by false e = rw e refl

pub parked_is : (a : Activities) (h : Holder) (k at : ℕ) (o y : Option Iteration) (r : Bool) → AreActivities a → h ≡ holders.Iteration k at → y ≡ get_or a.iterations.items (k % a.slots) y → y ≡ o → r ≡ is_there k o → r ≡ is_some (wait_of (point_in a).machine (who h))
parked_is a h k at o y r stand e f g t =
    let room : length a.iterations.items ≡ a.slots = sym (length-map a.iterations.items (λ x. option_map standing_of x)) ∙ stand.core.room in
    let inside : k % a.slots < length a.iterations.items = omega (arith, room, stand.core.some) in
    let place : get_or a.iterations.items (k % a.slots) None ≡ o = get_or_default a.iterations.items (k % a.slots) None y inside ∙ sym f ∙ g in
    t ∙ there_is k o ∙ sym (ap (λ (w : Option Wait). is_some w) (parked_at a k o place)) ∙ sym (ap (λ (z : Holder). is_some (wait_of (point_in a).machine (who z))) e)

-- ---- steps

pub here : {A : Type 0} (o : Option A) → is_some o ≡ true → (x : A) × (o ≡ Some x)
here None h = let z : false ≡ true = h in cc
here (Some x) h = (x, refl)

pub share_more : (a b : Activities) (x y : Schedule) (t v : Tally) (q : ℕ) (u : Who) (p : Bool) → AreParts a x t → held_of (kept_in a).held q ≡ Some u → Moves (code_in a) a.slots false (point_in a) q (point_in b)
    → y ≡ with_entry x (record { processor = q; act = shares }) → p ≡ is_some (wait_of (point_in b).machine u) → v.made ≡ t.made + 1 → v.again ≡ t.again + (if p then 1 else 0)
    → IsMore (record { processor = q; act = shares }) (λ c d. Moves (code_in a) x.slots false c q d) a x t b y v
share_more a b x y t v q u p parts h m e f made again = record {
  step = subst (λ (s : ℕ). Moves (code_in a) s false (point_in a) q (point_in b)) parts.are.slots m;
  schedule = e;
  tally = record {
    parks = if p then 1 else 0;
    counts = again_share (code_in a) a.slots (kept_in a) q (point_in b) u p parts.stand.core h m f;
    made = made;
    again = again;
  };
}

pub share_none : (a b : Activities) (x y : Schedule) (t : Tally) (q : ℕ) → AreParts a x t → kept_in b ≡ kept_in a → ((c : Point) → Moves (code_in a) a.slots false (point_in a) q c → ⊥) → y ≡ x
    → IsSame a x t b y t × ((c : Point) → Moves (code_in a) x.slots false (point_in a) q c → ⊥)
share_none a b x y t q parts k n e =
    (record { kept = k; schedule = e; tally = refl }, λ c m. n c (subst (λ (s : ℕ). Moves (code_in a) s false (point_in a) q c) (sym parts.are.slots) m))

pub pick_more : (a b : Activities) (x y : Schedule) (t v : Tally) (q : ℕ) (c : Choice) → AreParts a x t → Picks (code_in a) a.slots c (point_in a) q (point_in b)
    → y ≡ with_entry x (record { processor = q; act = pick_of c }) → v.made ≡ t.made + 1 → v.again ≡ t.again + (if takes_parked c then 1 else 0)
    → IsMore (record { processor = q; act = pick_of c }) (λ d e. Picks (code_in a) x.slots c d q e) a x t b y v
pick_more a b x y t v q c parts m e made again = record {
  step = subst (λ (s : ℕ). Picks (code_in a) s c (point_in a) q (point_in b)) parts.are.slots m;
  schedule = e;
  tally = record {
    parks = if takes_parked c then 1 else 0;
    counts = again_pick (code_in a) a.slots c (point_in a) q (point_in b) m;
    made = made ∙ ap (λ (n : ℕ). t.made + n) (one c);
    again = again;
  };
}
  where
    one : (d : Choice) → 1 ≡ steps (pick_of d)
    one take_main = refl
    one (take_iteration k) = refl
    one take_ticket = refl

pub put_more : (a b : Activities) (x y : Schedule) (t v : Tally) (q made : ℕ) (to : Frame) → AreParts a x t → is_some (frame_at q (point_in a)) ≡ true
    → ((from : Frame) → frame_at q (point_in a) ≡ Some from → locals (code_in a).instructions made from ≡ Some to)
    → ((n : ℕ) (from : Frame) → frame_at q (point_in a) ≡ Some from → locals (code_in a).instructions n from ≡ Some to → Works (code_in a) a.slots n (point_in a) q (point_in b))
    → y ≡ with_entry x (record { processor = q; act = works made }) → v.made ≡ t.made + made → v.again ≡ t.again + 0
    → IsMore (record { processor = q; act = works made }) (λ c d. Works (code_in a) x.slots made c q d) a x t b y v
put_more a b x y t v q made to parts holds leads does e n m =
    let f = here (frame_at q (point_in a)) holds in
    let w : Works (code_in a) x.slots made (point_in a) q (point_in b) =
    subst (λ (s : ℕ). Works (code_in a) s made (point_in a) q (point_in b)) parts.are.slots (does made f.0 f.1 (leads f.0 f.1)) in
    record {
      step = w;
      schedule = e;
      tally = record { parks = 0; counts = inl (refl, works_still (code_in a) x.slots made (point_in a) q (point_in b) w); made = n; again = m };
    }

-- the number is that of who stands there, or another
pub then_there : (k : ℕ) (a : Iteration) (r : Bool) → a.number ≡ k → r ≡ is_some a.wait → r ≡ is_there k (Some a)
then_there k a r e h = rw (eq-eqb a.number k e) h

pub else_there : (k : ℕ) (a : Iteration) → (a.number ≡ k → ⊥) → (a.number == k) ≡ is_there k (Some a)
else_there k a d = rw (ne_eqb a.number k d) refl
