-- A step of an iteration keeps what holds of all that a core keeps.
use Rattle.std.proofs.Common.{◌≡◌, ◌∙◌, ℕ, ◌+◌, ◌-◌, ◌<◌, Bool, true, false, length, Option, Some, None, refl, sym, ap, subst, arith}
use Rattle.std.specs.Prelude.{◌%◌, ◌==◌, nat_lt, if◌then◌else◌}
use Rattle.std.proofs.Math.ListN.{set}
use Rattle.std.proofs.lemmas.Bool.{eqb-true, eq-eqb, ltb-false}
use Rattle.std.proofs.lemmas.List.{get_or-set_same, length-set}
use Rattle.ec_kernel.specs.View.{View, IsKernel, count_at, parked, advanced}
use Rattle.machine.specs.Code.{Code, loop_at}
use Rattle.machine.specs.Local.{going_on}
use Rattle.machine.specs.Next.{Tells}
use Rattle.machine.specs.State.{Wait, until_count, until_retired}
use Rattle.machine.specs.View.{View as FrameView}
use Rattle.machine.specs.Frame.{Frame}
use Rattle.machine.specs.declared.code.Open.{Open}
use Rattle.machine.specs.declared.next.Next.{Next}
use Rattle.machine.specs.declared.next.Next.TheVariants.{Load, Store, Print, Await, Advance, Retire, Report, Stop}
use Rattle.ast.specs.declared.fault.End.{End}
use Rattle.ast.specs.declared.fault.End.TheVariants.{Stopped, Fault as Faulted}
use Rattle.activities.specs.Core.{IsCore}
use Rattle.activities.specs.Parts.{Kept, Shared, Standing, wait_in}
use Rattle.activities.specs.Turns.{After, ends, idle, iteration_after, leaves, parks, put_back, stays, waits_its_turn}
use Rattle.activities.specs.Waiting.{Stands}
use Rattle.activities.proofs.Queues.{advances, parks_itself, parks_other}
use Rattle.activities.proofs.Remaining.{Onward, advanced_onward, leaves_core, parks_core, stays_core, still}
use Rattle.activities.proofs.Turning.{Runs, after_length, event_some}

-- the iteration isn't parked, so it stands nowhere
nowhere : (code : Code) (s q k : ℕ) (a : Standing) (x : Kept) → IsCore code s x → Runs code s q k a x → Stands x.shared.order (1 + k % s) None
nowhere code s q k a x i r = subst (λ (w : Option Wait). Stands x.shared.order (1 + k % s) w) (ap wait_in r.here ∙ r.running) (i.each (k % s) (omega (arith, r.room, i.room)))

goes_on : (code : Code) (s q k : ℕ) (a b : Standing) (x : Kept) (y : Shared) → IsCore code s x → Runs code s q k a x → b.number ≡ k → b.wait ≡ None → Onward x.shared.order y.order → length y.cells ≡ length x.shared.cells → y.loop ≡ x.shared.loop → IsCore code s (record x { shared = y; iterations = set x.iterations (k % s) (Some b) })
goes_on code s q k a b x y i r m w o c l = stays_core code s k x a b y i r.here r.number r.running (omega (arith, r.room, i.room)) m w o c l

-- nothing has changed but shared parts that the kernel doesn't see
as_before : (code : Code) (s q k : ℕ) (a b : Standing) (x : Kept) (y : Shared) → IsCore code s x → Runs code s q k a x → b.number ≡ k → b.wait ≡ None → y.order ≡ x.shared.order → length y.cells ≡ length x.shared.cells → y.loop ≡ x.shared.loop → IsCore code s (record x { shared = y; iterations = set x.iterations (k % s) (Some b) })
as_before code s q k a b x y i r m w e c l = goes_on code s q k a b x y i r m w (subst (λ (z : View). Onward x.shared.order z) (sym e) (still x.shared.order i.kernel)) c l

waits_core : (code : Code) (s q k e v : ℕ) (w : Wait) (a : Standing) (x : Kept) → IsCore code s x → Runs code s q k a x → e < length x.shared.order.counts → count_at x.shared.order e < v → Stands (parked x.shared.order e v (1 + k % s)) (1 + k % s) (Some w)
    → IsKernel (parked x.shared.order e v (1 + k % s)) → IsCore code s (put_back q (k % s) (parks (1 + k % s) e v w x.shared a) x)
waits_core code s q k e v w a x i r l c t j =
    parks_core code s q k x a (record x.shared { order = parked x.shared.order e v (1 + k % s) }) w i r.here r.number (omega (arith, r.room, i.room)) r.holds r.below
    (record { kernel = j; slots = refl; counts = refl; ticket = refl; itself = t; others = λ u z d h. parks_other x.shared.order e v (1 + k % s) u z i.kernel l d h })
    refl refl refl

turn_core : (code : Code) (s q k : ℕ) (a : Standing) (x : Kept) → IsCore code s x → Runs code s q k a x → (count_at x.shared.order 0 ≡ a.number → ⊥) → IsKernel (parked x.shared.order 0 a.number (1 + k % s))
    → IsCore code s (put_back q (k % s) (waits_its_turn (1 + k % s) x.shared a) x)
turn_core code s q k a x i r d j =
    let l : 0 < length x.shared.order.counts = omega (arith, r.counts) in
    let c : count_at x.shared.order 0 < a.number = omega (arith, r.turn, r.number, d) in
    waits_core code s q k 0 a.number (until_retired a.number) a x i r l c (parks_itself x.shared.order 0 a.number (1 + k % s) i.kernel l c) j

retired_core : (code : Code) (s q k n : ℕ) (a : Standing) (x : Kept) → IsCore code s x → Runs code s q k a x → count_at x.shared.order 0 ≡ k → IsKernel (advanced x.shared.order 0)
    → IsCore code s (put_back q (k % s) (leaves code n x.shared a) x)
retired_core code s q k n a x i r e j =
    let l : 0 < length x.shared.order.counts = omega (arith, r.counts) in
    leaves_core code s q k x a (leaves code n x.shared a).shared i r.here r.number (omega (arith, r.room, i.room)) r.holds r.below e
    (record {
      kernel = j;
      slots = refl;
      counts = length-set x.shared.order.counts 0 (count_at x.shared.order 0 + 1);
      ticket = refl;
      itself = advances x.shared.order 0 (1 + k % s) None l i.kernel j (nowhere code s q k a x i r);
      others = λ u w d h. advances x.shared.order 0 u w l i.kernel j h;
    })
    (get_or-set_same x.shared.order.counts 0 (count_at x.shared.order 0 + 1) 0 l ∙ ap (λ (c : ℕ). c + 1) e)
    (after_length code (loop_at code n).privates a.frame.privates x.shared.cells)
    refl

by_turn : (code : Code) (s q k : ℕ) (a : Standing) (x : Kept) (y : After) → IsCore code s x → Runs code s q k a x
    → (count_at x.shared.order 0 ≡ k → IsKernel y.shared.order → IsCore code s (put_back q (k % s) y x))
    → IsKernel (if count_at x.shared.order 0 == a.number then y else waits_its_turn (1 + k % s) x.shared a).shared.order
    → IsCore code s (put_back q (k % s) (if count_at x.shared.order 0 == a.number then y else waits_its_turn (1 + k % s) x.shared a) x)
by_turn code s q k a x y i r at = by (count_at x.shared.order 0 == a.number) refl
  where
    by : (b : Bool) → (count_at x.shared.order 0 == a.number) ≡ b → IsKernel (if b then y else waits_its_turn (1 + k % s) x.shared a).shared.order → IsCore code s (put_back q (k % s) (if b then y else waits_its_turn (1 + k % s) x.shared a) x)
    by true e j = at (eqb-true (count_at x.shared.order 0) a.number e ∙ r.number) j
    by false e j = turn_core code s q k a x i r (λ h. let z : true ≡ false = sym (eq-eqb (count_at x.shared.order 0) a.number h) ∙ e in cc) j

ended_core : (code : Code) (s q k : ℕ) (a : Standing) (x : Kept) (e : End) → IsCore code s x → Runs code s q k a x → IsCore code s (put_back q (k % s) (ends e x.shared a) x)
ended_core code s q k a x e i r = as_before code s q k a a x (ends e x.shared a).shared i r r.number r.running refl refl refl

awaits_core : (code : Code) (s q k e d : ℕ) (a : Standing) (x : Kept) → IsCore code s x → Runs code s q k a x → 0 < e → e < 65
    → IsKernel (iteration_after code (1 + k % s) (Await e d) x.shared a).shared.order → IsCore code s (put_back q (k % s) (iteration_after code (1 + k % s) (Await e d) x.shared a) x)
awaits_core code s q k e d a x i r p l = by (nat_lt a.number (count_at x.shared.order e + d)) refl
  where
    on : After
    on = stays x.shared (record a { frame = going_on a.frame.operands a.frame })

    off : After
    off = parks (1 + k % s) e (a.number + 1 - d) (until_count e (a.number + 1 - d)) x.shared a

    by : (b : Bool) → nat_lt a.number (count_at x.shared.order e + d) ≡ b → IsKernel (if b then on else off).shared.order → IsCore code s (put_back q (k % s) (if b then on else off) x)
    by true h j = as_before code s q k a (record a { frame = going_on a.frame.operands a.frame }) x x.shared i r r.number r.running refl refl refl
    by false h j =
        let m : e < length x.shared.order.counts = omega (arith, l, r.counts) in
        let c : count_at x.shared.order e < a.number + 1 - d = omega (arith, ltb-false a.number (count_at x.shared.order e + d) h) in
        waits_core code s q k e (a.number + 1 - d) (until_count e (a.number + 1 - d)) a x i r m c (p, parks_itself x.shared.order e (a.number + 1 - d) (1 + k % s) i.kernel m c) j

advances_core : (code : Code) (s q k e : ℕ) (a : Standing) (x : Kept) → IsCore code s x → Runs code s q k a x → 0 < e → e < 65
    → IsKernel (iteration_after code (1 + k % s) (Advance e) x.shared a).shared.order → IsCore code s (put_back q (k % s) (iteration_after code (1 + k % s) (Advance e) x.shared a) x)
advances_core code s q k e a x i r p l = by (count_at x.shared.order e == a.number)
  where
    on : After
    on = stays (record x.shared { order = advanced x.shared.order e }) (record a { frame = going_on a.frame.operands a.frame })

    by : (b : Bool) → IsKernel (if b then on else idle x.shared a).shared.order → IsCore code s (put_back q (k % s) (if b then on else idle x.shared a) x)
    by true j =
        goes_on code s q k a (record a { frame = going_on a.frame.operands a.frame }) x (record x.shared { order = advanced x.shared.order e }) i r r.number r.running
        (advanced_onward x.shared.order e p (omega (arith, l, r.counts)) i.kernel j) refl refl
    by false j = as_before code s q k a a x x.shared i r r.number r.running refl refl refl

-- What holds of all that a core keeps holds after a step of an iteration.
pub keeps_on : (code : Code) (s q k : ℕ) (a : Standing) (x : Kept) (n : Next) (v : FrameView Frame Open) → IsCore code s x → Runs code s q k a x → Tells code a.frame v n
    → IsKernel (iteration_after code (1 + k % s) n x.shared a).shared.order → IsCore code s (put_back q (k % s) (iteration_after code (1 + k % s) n x.shared a) x)
keeps_on code s q k a x (Load n j) v i r t z = as_before code s q k a (iteration_after code (1 + k % s) (Load n j) x.shared a).standing x x.shared i r r.number r.running refl refl refl
keeps_on code s q k a x (Store n c j) v i r t z = as_before code s q k a (iteration_after code (1 + k % s) (Store n c j) x.shared a).standing x (record x.shared { cells = set x.shared.cells n c }) i r r.number r.running refl (length-set x.shared.cells n c) refl
keeps_on code s q k a x (Print pieces j) v i r t z = as_before code s q k a (iteration_after code (1 + k % s) (Print pieces j) x.shared a).standing x x.shared i r r.number r.running refl refl refl
keeps_on code s q k a x (Await e d) v i r t z = awaits_core code s q k e d a x i r (let d = (event_some e t.1).0 in omega (arith, d)) (event_some e t.1).1 z
keeps_on code s q k a x (Advance e) v i r t z = advances_core code s q k e a x i r (let d = (event_some e t.1).0 in omega (arith, d)) (event_some e t.1).1 z
keeps_on code s q k a x (Retire n) v i r t z = by_turn code s q k a x (leaves code n x.shared a) i r (λ e j. retired_core code s q k n a x i r e j) z
keeps_on code s q k a x (Report e line) v i r t z = by_turn code s q k a x (ends (Faulted e line) x.shared a) i r (λ h j. ended_core code s q k a x (Faulted e line) i r) z
keeps_on code s q k a x (Stop line) v i r t z = by_turn code s q k a x (ends (Stopped line) x.shared a) i r (λ h j. ended_core code s q k a x (Stopped line) i r) z
keeps_on code s q k a x n v i r t z = as_before code s q k a a x x.shared i r r.number r.running refl refl refl
