-- Which steps park an activity, or take up one that was parked.
use Rattle.std.proofs.Common.{inl, inr, ◌≡◌, ◌∙◌, ◌⊎◌, ℕ, zero, suc, Bool, true, false, List, [], ◌∷◌, map, get_or, Option, Some, None, refl, sym, ap, subst}
use Rattle.std.specs.Prelude.{◌%◌, is_some, if◌then◌else◌, option_map}
use Rattle.machine.specs.Code.{Code}
use Rattle.machine.specs.Frame.{Frame}
use Rattle.machine.specs.Local.{local}
use Rattle.machine.specs.Solo.{Still}
use Rattle.machine.specs.State.{Active, Machine, Wait, Who, the_main, iteration, Choice, take_main, take_iteration, take_ticket, Turn, Move, MainMove, put_at}
use Rattle.machine.specs.View.{View, doing, loading, storing, printing, reading, awaiting, advancing, opening, joining, leaving, breaking, halting, stuck, view, trips_of, begin}
use Rattle.machine.specs.declared.code.Open.{Open}
use Rattle.machine.proofs.Views.{local_is_doing}
use Rattle.machine.proofs.Puts.{put_same}
use Rattle.activities.specs.Activities.{point_in}
use Rattle.activities.specs.Core.{IsCore}
use Rattle.activities.specs.Parts.{Kept, Standing, held_of, machine_of, numbered, point_of, standing, wait_in}
use Rattle.activities.specs.PartsView.{standing_of}
use Rattle.activities.specs.Points.{Point, Moves, Picks, Works, frame_in, frame_of, local_in, wait_of}
use Rattle.replay.specs.Tallies.{Again, takes_parked}
use Rattle.activities.specs.declared.holding.Activities.{Activities}
use Rattle.activities.specs.declared.parts.Iteration.{Iteration}
use Rattle.activities.proofs.Maps.{standing_is}

-- a step that parks nobody, or one that parks this activity
abbrev Parks : Machine → Machine → Option Wait → Type 0
Parks m n o = Still m n ⊎ ((w : Wait) × (o ≡ Some w))

still_as : (m n r : Machine) → n ≡ r → Still m r → Still m n
still_as m n r e s = subst (λ (z : Machine). Still m z) (sym e) s

parks_as : (m n r : Machine) (k : ℕ) (w : Wait) → n ≡ r → r.parked ≡ put_at m.parked k (Some w) → Parks m n (n.parked k)
parks_as m n r k w e p = inr (w, ap (λ (z : Machine). z.parked k) e ∙ ap (λ (f : ℕ → Option Wait). f k) p ∙ put_same m.parked k (Some w))

move_parks : (v : View Frame Open) (x : Active Frame) (m : Machine) (q k : ℕ) (n : Machine) → Move v x m q k n → Parks m n (n.parked k)
move_parks (doing g) x m q k n h = inl (still_as m n _ h (refl, refl))
move_parks (loading c φ) x m q k n h = inl (still_as m n _ h (refl, refl))
move_parks (storing c v g) x m q k n h = inl (still_as m n _ h (refl, refl))
move_parks (printing bytes g) x m q k n h = inl (still_as m n _ h (refl, refl))
move_parks (awaiting e d g) x m q k n (inl h) = inl (still_as m n _ h.1 (refl, refl))
move_parks (awaiting e d g) x m q k n (inr h) = parks_as m n _ k _ h.1 refl
move_parks (advancing e g) x m q k n h = inl (still_as m n _ h.1 (refl, refl))
move_parks (leaving xs) x m q k n (inl h) = inl (still_as m n _ h.1 (refl, refl))
move_parks (leaving xs) x m q k n (inr h) = parks_as m n _ k _ h.1 refl
move_parks (breaking c) x m q k n (inl h) = inl (still_as m n _ h.1 (refl, refl))
move_parks (breaking c) x m q k n (inr h) = parks_as m n _ k _ h.1 refl
move_parks (reading ρ φ) x m q k n h = absurd h
move_parks (opening l g) x m q k n h = absurd h
move_parks (joining ρ φ) x m q k n h = absurd h
move_parks halting x m q k n h = absurd h
move_parks stuck x m q k n h = absurd h

main_parks : (v : View Frame Open) (m : Machine) (q : ℕ) (n : Machine) → MainMove trips_of v m q n → Parks m n n.waiting
main_parks (doing g) m q n h = inl (still_as m n _ h (refl, refl))
main_parks (loading c φ) m q n h = inl (still_as m n _ h (refl, refl))
main_parks (storing c v g) m q n h = inl (still_as m n _ h (refl, refl))
main_parks (printing bytes g) m q n h = inl (still_as m n _ h (refl, refl))
main_parks (reading ρ φ) m q n h = inl (still_as m n _ h (refl, refl))
main_parks (opening l g) m q n h = inl (still_as m n _ h.1 (refl, refl))
main_parks (joining ρ φ) m q n h = elim h.2 [
  | inl e ↦ inl (still_as m n _ e.1 (refl, refl))
  | inr e ↦ inr (_, ap (λ (z : Machine). z.waiting) e.1)
]
main_parks (breaking c) m q n h = inl (still_as m n _ h (refl, refl))
main_parks halting m q n h = inl (still_as m n _ h (refl, refl))
main_parks (awaiting e d g) m q n h = absurd h
main_parks (advancing e g) m q n h = absurd h
main_parks (leaving xs) m q n h = absurd h
main_parks stuck m q n h = absurd h

turn_parks : (code : Code) (s : ℕ) (u : Who) (m : Machine) (q : ℕ) (n : Machine) → Turn Frame Open (view code) trips_of (begin code) s (Some u) m q n → Parks m n (wait_of n u)
turn_parks code s the_main m q n h = main_parks (view code m.main) m q n h
turn_parks code s (iteration k) m q n h = move_parks (view code h.0.frame) h.0 m q k n h.2

-- local instructions park nobody
doing_still : (code : Code) (s : ℕ) (u : Who) (m : Machine) (q : ℕ) (n : Machine) → local_in code (frame_of m u) ≡ true → Turn Frame Open (view code) trips_of (begin code) s (Some u) m q n → Still m n
doing_still code s the_main m q n l h = by (local code.instructions m.main) refl l
  where
    by : (o : Option Frame) → local code.instructions m.main ≡ o → is_some o ≡ true → Still m n
    by None e i = cc
    by (Some g) e i = still_as m n _ (subst (λ (v : View Frame Open). MainMove trips_of v m q n) ((local_is_doing code m.main g).0 e) h) (refl, refl)
doing_still code s (iteration k) m q n l h = by (local code.instructions h.0.frame) refl (ap (λ (o : Option (Active Frame)). local_in code (frame_in o)) (sym h.1) ∙ l)
  where
    by : (o : Option Frame) → local code.instructions h.0.frame ≡ o → is_some o ≡ true → Still m n
    by None e i = cc
    by (Some g) e i = still_as m n _ (subst (λ (v : View Frame Open). Move v h.0 m q k n) ((local_is_doing code h.0.frame g).0 e) h.2) (refl, refl)

pub local_still : (code : Code) (s : ℕ) (a : Point) (q : ℕ) (b : Point) → Moves code s true a q b → Still a.machine b.machine
local_still code s a q b h =
    doing_still code s h.who a.machine q b.machine h.kind (subst (λ (o : Option Who). Turn Frame Open (view code) trips_of (begin code) s o a.machine q b.machine) h.holds h.step.turn)

pub works_still : (code : Code) (s n : ℕ) (a : Point) (q : ℕ) (b : Point) → Works code s n a q b → Still a.machine b.machine
works_still code s zero a q b h = subst (λ (x : Point). Still a.machine x.machine) h (refl, refl)
works_still code s (suc n) a q b h =
    let one = local_still code s a q h.0 h.1 in
    let more = works_still code s n h.0 q b h.2 in
    (more.0 ∙ one.0, more.1 ∙ one.1)

-- ---- who is held isn't parked

held_runs : (code : Code) (s : ℕ) (x : Kept) (q : ℕ) (u : Who) → IsCore code s x → held_of x.held q ≡ Some u → wait_of (machine_of code.variables s x) u ≡ None
held_runs code s x q the_main i h = i.leads q h
held_runs code s x q (iteration k) i h =
    let r = i.runs q k h in
    ap wait_in (standing_is x.iterations s k (Some r.standing) r.here r.number) ∙ r.wait

wait_still : (m n : Machine) (u : Who) → Still m n → wait_of n u ≡ wait_of m u
wait_still m n the_main h = h.1
wait_still m n (iteration k) h = ap (λ (f : ℕ → Option Wait). f k) h.0

pub again_if : (m n : Machine) (u : Who) (p : Bool) → wait_of m u ≡ None → Parks m n (wait_of n u) → p ≡ is_some (wait_of n u) → Again m n (if p then 1 else 0)
again_if m n u true e (inl h) f = (let z : true ≡ false = f ∙ ap (λ (o : Option Wait). is_some o) (wait_still m n u h ∙ e) in cc)
again_if m n u false e (inl h) f = inl (refl, h)
again_if m n u true e (inr h) f = inr (refl, λ s. (let z : Some h.0 ≡ None = sym h.1 ∙ wait_still m n u s ∙ e in cc))
again_if m n u false e (inr h) f = (let z : false ≡ true = f ∙ ap (λ (o : Option Wait). is_some o) h.1 in cc)

-- a shared step of what is held
pub again_share : (code : Code) (s : ℕ) (x : Kept) (q : ℕ) (b : Point) (u : Who) (p : Bool) → IsCore code s x → held_of x.held q ≡ Some u → Moves code s false (point_of code.variables s x) q b → p ≡ is_some (wait_of b.machine u)
    → Again (machine_of code.variables s x) b.machine (if p then 1 else 0)
again_share code s x q b u p i h m f =
    again_if (machine_of code.variables s x) b.machine u p (held_runs code s x q u i h)
    (turn_parks code s u (machine_of code.variables s x) q b.machine (subst (λ (o : Option Who). Turn Frame Open (view code) trips_of (begin code) s o (machine_of code.variables s x) q b.machine) h m.step.turn)) f

-- a choice
pub again_pick : (code : Code) (s : ℕ) (c : Choice) (a : Point) (q : ℕ) (b : Point) → Picks code s c a q b → Again a.machine b.machine (if takes_parked c then 1 else 0)
again_pick code s take_main a q b h =
    inr (refl, λ t. (let z : None ≡ Some h.takes.0 = sym (ap (λ (m : Machine). m.waiting) h.takes.3) ∙ t.1 ∙ h.takes.1 in cc))
again_pick code s (take_iteration k) a q b h =
    inr (refl, λ t. (let z : None ≡ Some h.takes.0 = sym (ap (λ (m : Machine). m.parked k) h.takes.3 ∙ put_same a.machine.parked k None) ∙ ap (λ (f : ℕ → Option Wait). f k) t.0 ∙ h.takes.1 in cc))
again_pick code s take_ticket a q b h = inl (refl, still_as a.machine b.machine _ h.takes.4 (refl, refl))

-- ---- what an activity is parked on

map_at : {A B : Type 0} (f : Option A → Option B) (xs : List (Option A)) (i : ℕ) → f None ≡ None → get_or (map f xs) i None ≡ f (get_or xs i None)
map_at f [] i e = sym e
map_at f (x ∷ xs) zero e = refl
map_at f (x ∷ xs) (suc i) e = map_at f xs i e

pub parked_at : (a : Activities) (k : ℕ) (o : Option Iteration) → get_or a.iterations.items (k % a.slots) None ≡ o → wait_of (point_in a).machine (iteration k) ≡ wait_in (numbered k (option_map standing_of o))
unfolding standing
parked_at a k o e =
    ap (λ (p : Option Standing). wait_in (numbered k p)) (map_at (λ x. option_map standing_of x) a.iterations.items (k % a.slots) refl ∙ ap (λ (p : Option Iteration). option_map standing_of p) e)
