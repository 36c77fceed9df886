-- A step and a choice lead to one state alone.
use Rattle.std.proofs.Common.{inl, inr, ◌≡◌, ◌∙◌, ◌⊎◌, ℕ, zero, suc, ◌+◌, ◌<◌, ◌≤◌, Bool, true, List, [], Option, Some, None, sym, ap, subst, arith}
use Rattle.std.specs.Prelude.{ℤ}
use Rattle.ec_kernel.specs.View as kernel
use Rattle.machine.specs.Code.{Code, Cell}
use Rattle.machine.specs.Frame.{Frame}
use Rattle.machine.specs.State.{Active, Machine, CodeStep, until_retired, Who, the_main, iteration, Choice, take_main, take_iteration, take_ticket, Takes, Turn, Move, MainMove, put_at, put_cells}
use Rattle.machine.specs.View.{View, doing, loading, storing, printing, reading, awaiting, advancing, opening, joining, leaving, breaking, halting, stuck, view, trips_of, begin}
use Rattle.machine.specs.declared.code.Open.{Open}
use Rattle.activities.specs.Points.{Point, slot, frame_of, wait_of, view_in, moved, Moves, Picks, Works}

move_same : (v : View Frame Open) (x : Active Frame) (m : Machine) (q k : ℕ) (n o : Machine) → Move v x m q k n → Move v x m q k o → n ≡ o
move_same (doing g) x m q k n o h i = h ∙ sym i
move_same (loading c φ) x m q k n o h i = h ∙ sym i
move_same (storing c v g) x m q k n o h i = h ∙ sym i
move_same (printing bytes g) x m q k n o h i = h ∙ sym i
move_same (awaiting e d g) x m q k n o (inl h) (inl i) = h.1 ∙ sym i.1
move_same (awaiting e d g) x m q k n o (inl h) (inr i) = absurd (omega (arith, h.0, i.0))
move_same (awaiting e d g) x m q k n o (inr h) (inl i) = absurd (omega (arith, h.0, i.0))
move_same (awaiting e d g) x m q k n o (inr h) (inr i) = h.1 ∙ sym i.1
move_same (advancing e g) x m q k n o h i = h.1 ∙ sym i.1
move_same (leaving xs) x m q k n o (inl h) (inl i) = h.1 ∙ sym i.1
move_same (leaving xs) x m q k n o (inl h) (inr i) = absurd (omega (arith, h.0, i.0))
move_same (leaving xs) x m q k n o (inr h) (inl i) = absurd (omega (arith, h.0, i.0))
move_same (leaving xs) x m q k n o (inr h) (inr i) = h.1 ∙ sym i.1
move_same (breaking c) x m q k n o (inl h) (inl i) = h.1 ∙ sym i.1
move_same (breaking c) x m q k n o (inl h) (inr i) = absurd (omega (arith, h.0, i.0))
move_same (breaking c) x m q k n o (inr h) (inl i) = absurd (omega (arith, h.0, i.0))
move_same (breaking c) x m q k n o (inr h) (inr i) = h.1 ∙ sym i.1
move_same (reading ρ φ) x m q k n o h i = absurd h
move_same (opening l g) x m q k n o h i = absurd h
move_same (joining ρ φ) x m q k n o h i = absurd h
move_same halting x m q k n o h i = absurd h
move_same stuck x m q k n o h i = absurd h

-- what a join comes to
abbrev Joins : Machine → ℕ → (Open → List (Cell × ℤ)) → (Open → Frame) → Machine → Open → Type 0
Joins m q ρ φ n l =
    ((trips_of l ≤ m.retired) × (n ≡ record m { main = φ l; store = put_cells m.store (ρ l); loop = None }))
    ⊎ ((m.retired < trips_of l) × (n ≡ record m { waiting = Some (until_retired (trips_of l)); held = put_at m.held q None }))

join_same : (m : Machine) (q : ℕ) (ρ : Open → List (Cell × ℤ)) (φ : Open → Frame) (n o : Machine) (l : Open) → Joins m q ρ φ n l → Joins m q ρ φ o l → n ≡ o
join_same m q ρ φ n o l (inl h) (inl i) = h.1 ∙ sym i.1
join_same m q ρ φ n o l (inl h) (inr i) = absurd (omega (arith, h.0, i.0))
join_same m q ρ φ n o l (inr h) (inl i) = absurd (omega (arith, h.0, i.0))
join_same m q ρ φ n o l (inr h) (inr i) = h.1 ∙ sym i.1

main_same : (v : View Frame Open) (m : Machine) (q : ℕ) (n o : Machine) → MainMove trips_of v m q n → MainMove trips_of v m q o → n ≡ o
main_same (doing g) m q n o h i = h ∙ sym i
main_same (loading c φ) m q n o h i = h ∙ sym i
main_same (storing c v g) m q n o h i = h ∙ sym i
main_same (printing bytes g) m q n o h i = h ∙ sym i
main_same (reading ρ φ) m q n o h i = h ∙ sym i
main_same (opening l g) m q n o h i = h.1 ∙ sym i.1
main_same (joining ρ φ) m q n o h i =
    let e : i.0 ≡ h.0 = (let z : Some i.0 ≡ Some h.0 = sym i.1 ∙ h.1 in cc) in
    join_same m q ρ φ n o h.0 h.2 (subst (Joins m q ρ φ o) e i.2)
main_same (breaking c) m q n o h i = h ∙ sym i
main_same halting m q n o h i = h ∙ sym i
main_same (awaiting e d g) m q n o h i = absurd h
main_same (advancing e g) m q n o h i = absurd h
main_same (leaving xs) m q n o h i = absurd h
main_same stuck m q n o h i = absurd h

turn_same : (code : Code) (s : ℕ) (u : Who) (m : Machine) (q : ℕ) (n o : Machine)
    → Turn Frame Open (view code) trips_of (begin code) s (Some u) m q n → Turn Frame Open (view code) trips_of (begin code) s (Some u) m q o → n ≡ o
turn_same code s the_main m q n o h i = main_same (view code m.main) m q n o h i
turn_same code s (iteration k) m q n o h i =
    let e : i.0 ≡ h.0 = (let z : Some i.0 ≡ Some h.0 = sym i.1 ∙ h.1 in cc) in
    move_same (view code h.0.frame) h.0 m q k n o h.2 (subst (λ (x : Active Frame). Move (view code x.frame) x m q k o) e i.2)

step_same : (code : Code) (s : ℕ) (u : Who) (m : Machine) (q : ℕ) (n o : Machine) → m.held q ≡ Some u → CodeStep code s m q n → CodeStep code s m q o → n ≡ o
step_same code s u m q n o e h i =
    turn_same code s u m q n o
    (subst (λ (w : Option Who). Turn Frame Open (view code) trips_of (begin code) s w m q n) e h.turn)
    (subst (λ (w : Option Who). Turn Frame Open (view code) trips_of (begin code) s w m q o) e i.turn)

abbrev point : Machine → kernel.View → Point
point m x = record { machine = m; order = x }

point_same : (b c : Point) → b.machine ≡ c.machine → b.order ≡ c.order → b ≡ c
point_same b c e f = ap (λ (m : Machine). point m b.order) e ∙ ap (λ (x : kernel.View). point c.machine x) f

-- A processor makes one step alone.
pub moves_same : (code : Code) (s : ℕ) (l m : Bool) (a : Point) (q : ℕ) (b c : Point) → Moves code s l a q b → Moves code s m a q c → b ≡ c
moves_same code s l m a q b c h i =
    let u : i.who ≡ h.who = (let z : Some i.who ≡ Some h.who = sym i.holds ∙ h.holds in cc) in
    let e : b.machine ≡ c.machine = step_same code s h.who a.machine q b.machine c.machine h.holds h.step i.step in
    point_same b c e
    (h.order ∙ ap (λ (n : Machine). moved (wait_of n h.who) (view_in code (frame_of a.machine h.who)) (slot s h.who) a.order) e
    ∙ sym (i.order ∙ ap (λ (w : Who). moved (wait_of c.machine w) (view_in code (frame_of a.machine w)) (slot s w) a.order) u))

takes_same : (code : Code) (s : ℕ) (x : Choice) (m : Machine) (q : ℕ) (n o : Machine)
    → Takes Frame Open (view code) trips_of (begin code) s x m q n → Takes Frame Open (view code) trips_of (begin code) s x m q o → n ≡ o
takes_same code s take_main m q n o h i = h.3 ∙ sym i.3
takes_same code s (take_iteration k) m q n o h i = h.3 ∙ sym i.3
takes_same code s take_ticket m q n o h i =
    let e : i.0 ≡ h.0 = (let z : Some i.0 ≡ Some h.0 = sym i.1 ∙ h.1 in cc) in
    h.4 ∙ ap (λ (l : Open). record m {
      ticket = m.ticket + 1;
      iterations = put_at m.iterations m.ticket (Some (record { frame = begin code l m.ticket; out = [] }));
      held = put_at m.held q (Some (iteration m.ticket));
    }) (sym e) ∙ sym i.4

-- A choice leads to one point alone.
pub picks_same : (code : Code) (s : ℕ) (x : Choice) (a : Point) (q : ℕ) (b c : Point) → Picks code s x a q b → Picks code s x a q c → b ≡ c
picks_same code s x a q b c h i = point_same b c (takes_same code s x a.machine q b.machine c.machine h.takes i.takes) (h.order ∙ sym i.order)

pub works_same : (code : Code) (s n : ℕ) (a : Point) (q : ℕ) (b c : Point) → Works code s n a q b → Works code s n a q c → b ≡ c
works_same code s zero a q b c h i = sym h ∙ i
works_same code s (suc n) a q b c h i =
    let e : i.0 ≡ h.0 = moves_same code s true true a q i.0 h.0 i.1 h.1 in
    works_same code s n h.0 q b c h.2 (subst (λ (x : Point). Works code s n x q c) e i.2)

-- who holds something picks nothing
pub holds_no_pick : (code : Code) (s : ℕ) (l : Bool) (x : Choice) (a : Point) (q : ℕ) (b c : Point) → Moves code s l a q b → Picks code s x a q c → ⊥
holds_no_pick code s l x a q b c h i = let z : Some h.who ≡ None = sym h.holds ∙ i.idle in cc
