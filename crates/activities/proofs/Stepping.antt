-- A step by its account is a shared step of the core; where the account makes none, there is none.
use Rattle.std.proofs.Common.{◌≡◌, ◌∙◌, ℕ, suc, ◌+◌, ◌-◌, Bool, true, false, List, [], ◌∷◌, get_or, Option, Some, None, refl, sym, ap, subst}
use Rattle.std.specs.Prelude.{◌%◌, ◌==◌, nat_lt, nat_le, is_some, if◌then◌else◌}
use Rattle.std.proofs.lemmas.Bool.{eq-eqb}
use Rattle.std.proofs.lemmas.List.{get_or-set_same}
use Rattle.ast.specs.Exact.{in_range}
use Rattle.ast.specs.declared.fault.End.TheVariants.{Stopped, Fault as Faulted}
use Rattle.ec_kernel.specs.View as kernel
use Rattle.ec_kernel.specs.View.{count_at, advanced, parked, restarted}
use Rattle.machine.specs.Code.{Code}
use Rattle.machine.specs.Frame.{Frame}
use Rattle.machine.specs.Local.{going_on, is_local, local, without}
use Rattle.machine.specs.Next.{Tells}
use Rattle.machine.specs.State.{Active, Machine, Move, MainMove, Wait, until_count, until_retired, Who, the_main, iteration, Turn}
use Rattle.machine.specs.View.{View, doing, advancing, opening, joining, view, trips_of, begin, frame_joined, index_at, join_stores}
use Rattle.machine.specs.declared.code.Open.{Open}
use Rattle.machine.specs.declared.next.Next.{Next}
use Rattle.machine.specs.declared.next.Next.TheVariants.{Local, Load, Store, Print, TakeRecord, TakeValue, DropRecord, Await, Advance, Opens, Join, Retire, Report, Stop, Halt, Stuck}
use Rattle.machine.proofs.Views.{local_is_doing}
use Rattle.activities.specs.Core.{IsCore}
use Rattle.activities.specs.Parts.{Standing, Shared, Kept, active, held_of, machine_of, point_of, standing, wait_in}
use Rattle.activities.specs.Points.{Moves, Point, counted, frame_in, frame_of, local_in, moved, slot, view_in, wait_of}
use Rattle.activities.specs.Turns.{After, MainAfter, closes, ends, idle, iteration_after, joins, leaves, main_after, main_as, none_open, opens, parks, put_back, put_main, stays, staying, waits_its_turn}
use Rattle.activities.specs.declared.turn.Outcome.{Outcome}
use Rattle.activities.specs.declared.turn.Outcome.TheVariants.{Leaves, Parks, Idle}
use Rattle.activities.proofs.Leading.{Leads, main_moves}
use Rattle.activities.proofs.Maps.{Mine, count_is, standing_is}
use Rattle.activities.proofs.Turning.{Runs, Went, event_some, moves, here_is}

-- ---- whether the step that stands next is local

abbrev pub is_done : View Frame Open → Bool
is_done (doing g) = true
is_done _ = false

not_done : (code : Code) (f : Frame) (v : View Frame Open) → local code.instructions f ≡ None → view code f ≡ v → is_done v ≡ false
not_done code f (doing g) e h = let z : None ≡ Some g = sym e ∙ (local_is_doing code f g).1 h in cc
not_done code f v e h = refl

pub local_told : (code : Code) (f : Frame) → is_local code.instructions f ≡ is_done (view code f)
local_told code f = by (local code.instructions f) refl
  where
    by : (o : Option Frame) → local code.instructions f ≡ o → is_local code.instructions f ≡ is_done (view code f)
    by None e = ap is_some e ∙ sym (not_done code f (view code f) e refl)
    by (Some g) e = ap is_some e ∙ sym (ap is_done ((local_is_doing code f g).0 e))

abbrev pub IsShared : Next → Type 0
IsShared Local = ⊥
IsShared _ = Unit {0}

shared_told : (code : Code) (f : Frame) (v : View Frame Open) (n : Next) → Tells code f v n → IsShared n → is_done v ≡ false
shared_told code f v Local t h = absurd h
shared_told code f v (Load n k) t h = ap is_done t.2
shared_told code f v (Store n c k) t h = ap is_done t.2
shared_told code f v (Print ps k) t h = ap is_done t.2
shared_told code f v (TakeRecord line) t h = ap is_done t.0
shared_told code f v (TakeValue line) t h = ap is_done t.0
shared_told code f v DropRecord t h = ap is_done t.0
shared_told code f v (Await e d) t h = ap is_done t.0
shared_told code f v (Advance e) t h = ap is_done t.0
shared_told code f v (Opens l) t h = ap is_done t.0
shared_told code f v (Join line) t h = ap is_done t.0
shared_told code f v (Retire n) t h = ap is_done t.2
shared_told code f v (Report e line) t h = ap is_done t
shared_told code f v (Stop line) t h = ap is_done t
shared_told code f v Halt t h = ap is_done t
shared_told code f v Stuck t h = ap is_done t

-- ---- the kernel after a step of an iteration

abbrev moved_by : After → View Frame Open → ℕ → Shared → kernel.View
moved_by y v at x = moved (wait_in (staying y.outcome y.standing)) v at x.order

on : (w : Option Wait) (u v : View Frame Open) (at : ℕ) (x z : kernel.View) → w ≡ None → v ≡ u → z ≡ counted u x → z ≡ moved w v at x
on w u v at x z e f g = g ∙ ap (λ (p : View Frame Open). counted p x) (sym f) ∙ sym (ap (λ (o : Option Wait). moved o v at x) e)

order_after : (code : Code) (at : ℕ) (x : Shared) (a : Standing) (n : Next) (v : View Frame Open) → a.wait ≡ None → Tells code a.frame v n → Went (iteration_after code at n x a).outcome
    → (iteration_after code at n x a).shared.order ≡ moved_by (iteration_after code at n x a) v at x
order_after code at x a Local v e t w = absurd w
order_after code at x a (Load n k) v e t w = on a.wait _ v at x.order x.order e t.2 refl
order_after code at x a (Store n c k) v e t w = on a.wait _ v at x.order x.order e t.2 refl
order_after code at x a (Print ps k) v e t w = on a.wait _ v at x.order x.order e t.2 refl
order_after code at x a (TakeRecord line) v e t w = absurd w
order_after code at x a (TakeValue line) v e t w = absurd w
order_after code at x a DropRecord v e t w = absurd w
order_after code at x a (Await i d) v e t w = by (nat_lt a.number (count_at x.order i + d))
  where
    yes_ : After
    yes_ = stays x (record a { frame = going_on a.frame.operands a.frame })

    no_ : After
    no_ = parks at i (a.number + 1 - d) (until_count i (a.number + 1 - d)) x a

    by : (b : Bool) → (if b then yes_ else no_).shared.order ≡ moved_by (if b then yes_ else no_) v at x
    by true = on a.wait _ v at x.order x.order e t.0 refl
    by false = refl
order_after code at x a (Advance i) v e t w = by (count_at x.order i == a.number) w
  where
    yes_ : After
    yes_ = stays (record x { order = advanced x.order i }) (record a { frame = going_on a.frame.operands a.frame })

    by : (b : Bool) → Went (if b then yes_ else idle x a).outcome → (if b then yes_ else idle x a).shared.order ≡ moved_by (if b then yes_ else idle x a) v at x
    by true h = on a.wait _ v at x.order (advanced x.order i) e t.0 refl
    by false h = absurd h
order_after code at x a (Opens l) v e t w = absurd w
order_after code at x a (Join line) v e t w = absurd w
order_after code at x a (Retire n) v e t w = by (count_at x.order 0 == a.number)
  where
    by : (b : Bool) → (if b then leaves code n x a else waits_its_turn at x a).shared.order ≡ moved_by (if b then leaves code n x a else waits_its_turn at x a) v at x
    by true = on None _ v at x.order (advanced x.order 0) refl t.2 refl
    by false = refl
order_after code at x a (Report i line) v e t w = by (count_at x.order 0 == a.number)
  where
    by : (b : Bool) → (if b then ends (Faulted i line) x a else waits_its_turn at x a).shared.order ≡ moved_by (if b then ends (Faulted i line) x a else waits_its_turn at x a) v at x
    by true = on a.wait _ v at x.order x.order e t refl
    by false = refl
order_after code at x a (Stop line) v e t w = by (count_at x.order 0 == a.number)
  where
    by : (b : Bool) → (if b then ends (Stopped line) x a else waits_its_turn at x a).shared.order ≡ moved_by (if b then ends (Stopped line) x a else waits_its_turn at x a) v at x
    by true = on a.wait _ v at x.order x.order e t refl
    by false = refl
order_after code at x a Halt v e t w = absurd w
order_after code at x a Stuck v e t w = absurd w

-- its number is the same
number_after : (code : Code) (at : ℕ) (x : Shared) (a : Standing) (n : Next) → (iteration_after code at n x a).standing.number ≡ a.number
number_after code at x a (Load n k) = refl
number_after code at x a (Await i d) = by (nat_lt a.number (count_at x.order i + d))
  where
    by : (b : Bool) → (if b then stays x (record a { frame = going_on a.frame.operands a.frame }) else parks at i (a.number + 1 - d) (until_count i (a.number + 1 - d)) x a).standing.number ≡ a.number
    by true = refl
    by false = refl
number_after code at x a (Advance i) = by (count_at x.order i == a.number)
  where
    by : (b : Bool) → (if b then stays (record x { order = advanced x.order i }) (record a { frame = going_on a.frame.operands a.frame }) else idle x a).standing.number ≡ a.number
    by true = refl
    by false = refl
number_after code at x a (Retire n) = by (count_at x.order 0 == a.number)
  where
    by : (b : Bool) → (if b then leaves code n x a else waits_its_turn at x a).standing.number ≡ a.number
    by true = refl
    by false = refl
number_after code at x a (Report i line) = by (count_at x.order 0 == a.number)
  where
    by : (b : Bool) → (if b then ends (Faulted i line) x a else waits_its_turn at x a).standing.number ≡ a.number
    by true = refl
    by false = refl
number_after code at x a (Stop line) = by (count_at x.order 0 == a.number)
  where
    by : (b : Bool) → (if b then ends (Stopped line) x a else waits_its_turn at x a).standing.number ≡ a.number
    by true = refl
    by false = refl
number_after code at x a n = refl

-- ---- a shared step of an iteration

abbrev of : Standing → Active Frame
of a = record { frame = a.frame; out = a.out }

staying_mine : (o : Outcome) (a : Standing) (k : ℕ) → a.number ≡ k → Mine k (staying o a)
staying_mine Leaves a k e = tt
staying_mine o a k e = e

is_shared : (code : Code) (at : ℕ) (x : Shared) (a : Standing) (n : Next) → Went (iteration_after code at n x a).outcome → IsShared n
is_shared code at x a Local w = absurd w
is_shared code at x a n w = tt

pub iteration_moves : (code : Code) (s q k : ℕ) (a : Standing) (x : Kept) (n : Next) → Runs code s q k a x → Tells code a.frame (view code a.frame) n → Went (iteration_after code (1 + k % s) n x.shared a).outcome
    → Moves code s false (point_of code.variables s x) q (point_of code.variables s (put_back q (k % s) (iteration_after code (1 + k % s) n x.shared a) x))
iteration_moves code s q k a x n r t w = record {
  who = iteration k;
  holds = r.holds;
  kind = ap (λ (o : Option Standing). local_in code (frame_in (active o))) here ∙ local_told code a.frame ∙ shared_told code a.frame (view code a.frame) n t (is_shared code (1 + k % s) x.shared a n w);
  step = record {
    going = r.going;
    turn = subst (λ (o : Option Who). Turn Frame Open (view code) trips_of (begin code) s o (machine_of code.variables s x) q (machine_of code.variables s z)) (sym r.holds)
        (of a, ap active here, moves code s q k a x n (view code a.frame) r t w);
  };
  order = order_after code (1 + k % s) x.shared a n (view code a.frame) r.running t w
      ∙ sym (ap (λ (o : Option Standing). moved (wait_in o) (view code a.frame) (1 + k % s) x.shared.order) now)
      ∙ sym (ap (λ (o : Option Standing). moved (wait_in (standing z.iterations s k)) (view_in code (frame_in (active o))) (1 + k % s) x.shared.order) here);
}
  where
    y : After
    y = iteration_after code (1 + k % s) n x.shared a

    z : Kept
    z = put_back q (k % s) y x

    here : standing x.iterations s k ≡ Some a
    here = here_is code s q k a x r

    now : standing z.iterations s k ≡ staying y.outcome y.standing
    now = standing_is z.iterations s k (staying y.outcome y.standing) (get_or-set_same x.iterations (k % s) (staying y.outcome y.standing) None r.room)
        (staying_mine y.outcome y.standing k (number_after code (1 + k % s) x.shared a n ∙ r.number))

-- ---- where the account makes none

no_move : (code : Code) (s q k : ℕ) (a : Standing) (x : Kept) (n : Next) (v : View Frame Open) (m : Machine) → Runs code s q k a x → Tells code a.frame v n → (Went (iteration_after code (1 + k % s) n x.shared a).outcome → ⊥) → is_done v ≡ false
    → Move v (of a) (machine_of code.variables s x) q k m → ⊥
no_move code s q k a x Local v m r t w d h = let z : true ≡ false = sym (ap is_done t.1) ∙ d in cc
no_move code s q k a x (Load n j) v m r t w d h = w tt
no_move code s q k a x (Store n c j) v m r t w d h = w tt
no_move code s q k a x (Print ps j) v m r t w d h = w tt
no_move code s q k a x (TakeRecord line) v m r t w d h = subst (λ (u : View Frame Open). Move u (of a) (machine_of code.variables s x) q k m) t.0 h
no_move code s q k a x (TakeValue line) v m r t w d h = subst (λ (u : View Frame Open). Move u (of a) (machine_of code.variables s x) q k m) t.0 h
no_move code s q k a x DropRecord v m r t w d h = subst (λ (u : View Frame Open). Move u (of a) (machine_of code.variables s x) q k m) t.0 h
no_move code s q k a x (Await i e) v m r t w d h = by (nat_lt a.number (count_at x.shared.order i + e)) w
  where
    by : (b : Bool) → (Went (if b then stays x.shared (record a { frame = going_on a.frame.operands a.frame }) else parks (1 + k % s) i (a.number + 1 - e) (until_count i (a.number + 1 - e)) x.shared a).outcome → ⊥) → ⊥
    by true f = f tt
    by false f = f tt
no_move code s q k a x (Advance i) v m r t w d h = by (count_at x.shared.order i == a.number) refl w
  where
    moved_so : Move (advancing i (going_on a.frame.operands a.frame)) (of a) (machine_of code.variables s x) q k m
    moved_so = subst (λ (u : View Frame Open). Move u (of a) (machine_of code.variables s x) q k m) t.0 h

    by : (b : Bool) → (count_at x.shared.order i == a.number) ≡ b → (Went (if b then stays (record x.shared { order = advanced x.shared.order i }) (record a { frame = going_on a.frame.operands a.frame }) else idle x.shared a).outcome → ⊥) → ⊥
    by true e f = f tt
    by false e f =
        let same : count_at x.shared.order i ≡ a.number = sym (count_is x.shared.order.counts i (event_some i t.1).0) ∙ moved_so.0 ∙ sym r.number in
        let z : true ≡ false = sym (eq-eqb (count_at x.shared.order i) a.number same) ∙ e in
        cc
no_move code s q k a x (Opens l) v m r t w d h = subst (λ (u : View Frame Open). Move u (of a) (machine_of code.variables s x) q k m) t.0 h
no_move code s q k a x (Join line) v m r t w d h = subst (λ (u : View Frame Open). Move u (of a) (machine_of code.variables s x) q k m) t.0 h
no_move code s q k a x (Retire n) v m r t w d h = by (count_at x.shared.order 0 == a.number) w
  where
    by : (b : Bool) → (Went (if b then leaves code n x.shared a else waits_its_turn (1 + k % s) x.shared a).outcome → ⊥) → ⊥
    by true f = f tt
    by false f = f tt
no_move code s q k a x (Report i line) v m r t w d h = by (count_at x.shared.order 0 == a.number) w
  where
    by : (b : Bool) → (Went (if b then ends (Faulted i line) x.shared a else waits_its_turn (1 + k % s) x.shared a).outcome → ⊥) → ⊥
    by true f = f tt
    by false f = f tt
no_move code s q k a x (Stop line) v m r t w d h = by (count_at x.shared.order 0 == a.number) w
  where
    by : (b : Bool) → (Went (if b then ends (Stopped line) x.shared a else waits_its_turn (1 + k % s) x.shared a).outcome → ⊥) → ⊥
    by true f = f tt
    by false f = f tt
no_move code s q k a x Halt v m r t w d h = subst (λ (u : View Frame Open). Move u (of a) (machine_of code.variables s x) q k m) t h
no_move code s q k a x Stuck v m r t w d h = subst (λ (u : View Frame Open). Move u (of a) (machine_of code.variables s x) q k m) t h

-- a step of what a processor holds
pub record StepOf (code : Code) (s : ℕ) (local : Bool) (p : Point) (q : ℕ) (u : Who) (b : Point) : Type 0 where
  pub kind : local_in code (frame_of p.machine u) ≡ local
  pub going : p.machine.ended ≡ None
  pub turn : Turn Frame Open (view code) trips_of (begin code) s (Some u) p.machine q b.machine
  pub order : b.order ≡ moved (wait_of b.machine u) (view_in code (frame_of p.machine u)) (slot s u) p.order

pub step_of : (code : Code) (s : ℕ) (local : Bool) (p b : Point) (q : ℕ) (u : Who) → p.machine.held q ≡ Some u → Moves code s local p q b → StepOf code s local p q u b
step_of code s local p b q u e m =
    let same : m.who ≡ u = (let z : Some m.who ≡ Some u = sym m.holds ∙ e in cc) in
    record {
      kind = subst (λ (w : Who). local_in code (frame_of p.machine w) ≡ local) same m.kind;
      going = m.step.going;
      turn = subst (λ (o : Option Who). Turn Frame Open (view code) trips_of (begin code) s o p.machine q b.machine) e m.step.turn;
      order = subst (λ (w : Who). b.order ≡ moved (wait_of b.machine w) (view_in code (frame_of p.machine w)) (slot s w) p.order) same m.order;
    }

pub iteration_stands : (code : Code) (s q k : ℕ) (a : Standing) (x : Kept) (n : Next) (b : Point) → Runs code s q k a x → Tells code a.frame (view code a.frame) n → (Went (iteration_after code (1 + k % s) n x.shared a).outcome → ⊥)
    → Moves code s false (point_of code.variables s x) q b → ⊥
iteration_stands code s q k a x n b r t w m =
    no_move code s q k a x n (view code a.frame) b.machine r t w
    (sym (local_told code a.frame) ∙ sym (ap (λ (o : Option Standing). local_in code (frame_in (active o))) here) ∙ g.kind)
    (subst (λ (c : Active Frame). Move (view code c.frame) c (machine_of code.variables s x) q k b.machine) same g.turn.2)
  where
    here : standing x.iterations s k ≡ Some a
    here = here_is code s q k a x r

    g : StepOf code s false (point_of code.variables s x) q (iteration k) b
    g = step_of code s false (point_of code.variables s x) b q (iteration k) r.holds m

    same : g.turn.0 ≡ of a
    same = let z : Some g.turn.0 ≡ Some (of a) = sym g.turn.1 ∙ ap active here in cc

-- ---- the same of main

order_led : (code : Code) (x : Kept) (n : Next) (v : View Frame Open) → x.waiting ≡ None → Tells code x.main v n → Went (main_after code n x).outcome
    → (main_after code n x).shared.order ≡ moved (main_after code n x).waiting v 0 x.shared.order
order_led code x Local v e t w = absurd w
order_led code x (Load n k) v e t w = on x.waiting _ v 0 x.shared.order x.shared.order e t.2 refl
order_led code x (Store n c k) v e t w = on x.waiting _ v 0 x.shared.order x.shared.order e t.2 refl
order_led code x (Print ps k) v e t w = on x.waiting _ v 0 x.shared.order x.shared.order e t.2 refl
order_led code x (TakeRecord line) v e t w = on x.waiting _ v 0 x.shared.order x.shared.order e t.0 refl
order_led code x (TakeValue line) v e t w = on x.waiting _ v 0 x.shared.order x.shared.order e t.0 refl
order_led code x DropRecord v e t w = on x.waiting _ v 0 x.shared.order x.shared.order e t.0 refl
order_led code x (Await i d) v e t w = absurd w
order_led code x (Advance i) v e t w = absurd w
order_led code x (Opens l) v e t w = by (none_open x.iterations) w
  where
    by : (b : Bool) → Went (if b then opens l x else main_as Idle x).outcome → (if b then opens l x else main_as Idle x).shared.order ≡ moved (if b then opens l x else main_as Idle x).waiting v 0 x.shared.order
    by true h = on x.waiting _ v 0 x.shared.order (restarted x.shared.order) e t.0 refl
    by false h = absurd h
order_led code x (Join line) v e t w = joined x.shared.loop w
  where
    far : Open → MainAfter
    far l = record (main_as Parks x) { shared = record x.shared { order = parked x.shared.order 0 l.trips 0 }; waiting = Some (until_retired l.trips) }

    by : (l : Open) (b : Bool) → (if b then closes code line l x else far l).shared.order ≡ moved (if b then closes code line l x else far l).waiting v 0 x.shared.order
    by l true = on x.waiting _ v 0 x.shared.order x.shared.order e t.0 refl
    by l false = refl

    joined : (o : Option Open) → Went (joins code line o x).outcome → (joins code line o x).shared.order ≡ moved (joins code line o x).waiting v 0 x.shared.order
    joined None h = absurd h
    joined (Some l) h = by l (nat_le l.trips (count_at x.shared.order 0))
order_led code x (Retire n) v e t w = absurd w
order_led code x (Report i line) v e t w = on x.waiting _ v 0 x.shared.order x.shared.order e t refl
order_led code x (Stop line) v e t w = on x.waiting _ v 0 x.shared.order x.shared.order e t refl
order_led code x Halt v e t w = on x.waiting _ v 0 x.shared.order x.shared.order e t refl
order_led code x Stuck v e t w = absurd w

is_led : (code : Code) (x : Kept) (n : Next) → Went (main_after code n x).outcome → IsShared n
is_led code x Local w = absurd w
is_led code x n w = tt

pub main_steps : (code : Code) (s q : ℕ) (x : Kept) (n : Next) → x.waiting ≡ None → Leads code q x → Tells code x.main (view code x.main) n → Went (main_after code n x).outcome
    → Moves code s false (point_of code.variables s x) q (point_of code.variables s (put_main q (main_after code n x) x))
main_steps code s q x n e r t w = record {
  who = the_main;
  holds = r.holds;
  kind = local_told code x.main ∙ shared_told code x.main (view code x.main) n t (is_led code x n w);
  step = record {
    going = r.going;
    turn = subst (λ (o : Option Who). Turn Frame Open (view code) trips_of (begin code) s o (machine_of code.variables s x) q (machine_of code.variables s (put_main q (main_after code n x) x))) (sym r.holds)
        (main_moves code s q x n (view code x.main) r t w);
  };
  order = order_led code x n (view code x.main) e t w;
}

abbrev OpenSomewhere : List (Option Standing) → Type 0
OpenSomewhere xs = (i : ℕ) × (a : Standing) × (get_or xs i None ≡ Some a)

some_open : (xs : List (Option Standing)) → none_open xs ≡ false → OpenSomewhere xs
some_open [] h = cc
some_open (None ∷ xs) h = let r = some_open xs h in (suc r.0, r.1, r.2)
some_open (Some a ∷ xs) h = (0, a, refl)

no_main_move : (code : Code) (s q : ℕ) (x : Kept) (n : Next) (v : View Frame Open) (m : Machine) → IsCore code s x → Tells code x.main v n → (Went (main_after code n x).outcome → ⊥) → is_done v ≡ false
    → MainMove trips_of v (machine_of code.variables s x) q m → ⊥
no_main_move code s q x Local v m i t w d h = let z : true ≡ false = sym (ap is_done t.1) ∙ d in cc
no_main_move code s q x (Await e j) v m i t w d h = subst (λ (u : View Frame Open). MainMove trips_of u (machine_of code.variables s x) q m) t.0 h
no_main_move code s q x (Advance e) v m i t w d h = subst (λ (u : View Frame Open). MainMove trips_of u (machine_of code.variables s x) q m) t.0 h
no_main_move code s q x (Opens l) v m i t w d h = by (none_open x.iterations) refl w
  where
    moved_so : MainMove trips_of (opening l (going_on (without 2 x.main.operands) x.main)) (machine_of code.variables s x) q m
    moved_so = subst (λ (u : View Frame Open). MainMove trips_of u (machine_of code.variables s x) q m) t.0 h

    by : (b : Bool) → none_open x.iterations ≡ b → (Went (if b then opens l x else main_as Idle x).outcome → ⊥) → ⊥
    by true e f = f tt
    by false e f =
        let o = some_open x.iterations e in
        let a = o.1 in
        let here : get_or x.iterations (a.number % s) None ≡ Some a = ap (λ (j : ℕ). get_or x.iterations j None) (i.numbers o.0 a o.2).0 ∙ o.2 in
        let z : Some (of a) ≡ None = sym (ap active (standing_is x.iterations s a.number (Some a) here refl)) ∙ moved_so.0 a.number in
        cc
no_main_move code s q x (Join line) v m i t w d h = joined x.shared.loop refl w
  where
    moved_so : MainMove trips_of (joining (λ l. join_stores code l) (λ l. frame_joined (in_range (index_at code l l.trips)) line x.main)) (machine_of code.variables s x) q m
    moved_so = subst (λ (u : View Frame Open). MainMove trips_of u (machine_of code.variables s x) q m) t.0 h

    far : Open → MainAfter
    far l = record (main_as Parks x) { shared = record x.shared { order = parked x.shared.order 0 l.trips 0 }; waiting = Some (until_retired l.trips) }

    by : (l : Open) (b : Bool) → (Went (if b then closes code line l x else far l).outcome → ⊥) → ⊥
    by l true f = f tt
    by l false f = f tt

    joined : (o : Option Open) → x.shared.loop ≡ o → (Went (joins code line o x).outcome → ⊥) → ⊥
    joined None e f = let z : None ≡ Some moved_so.0 = sym e ∙ moved_so.1 in cc
    joined (Some l) e f = by l (nat_le l.trips (count_at x.shared.order 0)) f
no_main_move code s q x (Retire n) v m i t w d h = subst (λ (u : View Frame Open). MainMove trips_of u (machine_of code.variables s x) q m) t.2 h
no_main_move code s q x Stuck v m i t w d h = subst (λ (u : View Frame Open). MainMove trips_of u (machine_of code.variables s x) q m) t h
no_main_move code s q x n v m i t w d h = w tt

pub main_stands : (code : Code) (s q : ℕ) (x : Kept) (n : Next) (b : Point) → IsCore code s x → held_of x.held q ≡ Some the_main → Tells code x.main (view code x.main) n → (Went (main_after code n x).outcome → ⊥)
    → Moves code s false (point_of code.variables s x) q b → ⊥
main_stands code s q x n b i e t w m =
    let g = step_of code s false (point_of code.variables s x) b q the_main e m in
    no_main_move code s q x n (view code x.main) b.machine i t w (sym (local_told code x.main) ∙ g.kind) g.turn
