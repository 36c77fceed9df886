-- Who is ready to be taken up, as the machine has it.
use Rattle.std.proofs.Common.{◌≡◌, ◌∙◌, ℕ, ◌<◌, ◌≤◌, ◌+◌, Bool, true, false, List, [], ◌∷◌, get_or, Option, Some, None, refl, sym, ap, subst, arith}
use Rattle.std.specs.Bool.{Decides}
use Rattle.std.specs.Prelude.{◌%◌, is_some, not, option_map}
use Rattle.ec_kernel.specs.View.{count_at, first_of, times}
use Rattle.machine.specs.Code.{Code}
use Rattle.machine.specs.State.{Wait, take_ticket}
use Rattle.activities.specs.Core.{IsCore}
use Rattle.activities.specs.Activities.{AreActivities, code_in, kept_in, point_in}
use Rattle.activities.specs.Least.{IsLeast, IsReached, IsReady}
use Rattle.activities.specs.Parts.{Kept, Standing, machine_of, numbered, standing, wait_in}
use Rattle.activities.specs.PartsView.{standing_of}
use Rattle.activities.specs.Picking.{is_due}
use Rattle.activities.specs.Waiting.{Stands}
use Rattle.activities.specs.declared.holding.Activities.{Activities}
use Rattle.activities.specs.declared.parts.Iteration.{Iteration}
use Rattle.activities.proofs.Entering.{place_below}
use Rattle.activities.proofs.Maps.{standing_there}
use Rattle.activities.proofs.Picks.{due_there}
use Rattle.activities.proofs.Taken.{due_in, due_ready, reached_in}

-- ---- one activity, with its slot

due : (code : Code) (s slot : ℕ) (x : Kept) (o : Option Wait) (b : Bool) → ((w : Wait) → o ≡ Some w → Stands x.shared.order slot (Some w)) → b ≡ is_due x.shared.order o → Decides b (IsReached (machine_of code.variables s x) o)
due code s slot x o b at d = (
  λ e. yes o refl (sym d ∙ e),
  λ r. d ∙ ap (is_due x.shared.order) r.1 ∙ due_in code s slot x r.0 (at r.0 r.1) r.2,
)
  where
    yes : (u : Option Wait) → o ≡ u → is_due x.shared.order o ≡ true → IsReached (machine_of code.variables s x) o
    yes None f h = let z : false ≡ true = sym (ap (is_due x.shared.order) f) ∙ h in cc
    yes (Some w) f h = (w, f, reached_in code s slot x w (at w f) (sym (ap (is_due x.shared.order) f) ∙ h))

-- who is ready is among those that have woken
woken : (code : Code) (s slot : ℕ) (x : Kept) (o : Option Wait) → ((w : Wait) → o ≡ Some w → Stands x.shared.order slot (Some w)) → first_of x.shared.order.ready ≡ None → IsReached (machine_of code.variables s x) o → ⊥
woken code s slot x o at e r = none x.shared.order.ready e (due_ready x.shared.order slot r.0 (at r.0 r.1) (due_in code s slot x r.0 (at r.0 r.1) r.2))
  where
    none : (xs : List ℕ) → first_of xs ≡ None → 0 < times slot xs → ⊥
    none [] f h = absurd (omega (arith, h))
    none (y ∷ ys) f h = let z : None ≡ Some y = sym f in cc

-- ---- main and iterations

main_at : (code : Code) (s : ℕ) (x : Kept) → IsCore code s x → (w : Wait) → x.waiting ≡ Some w → Stands x.shared.order 0 (Some w)
main_at code s x c w e = subst (λ (o : Option Wait). Stands x.shared.order 0 o) e c.main

iteration_at : (code : Code) (s k : ℕ) (x : Kept) → IsCore code s x → k % s < s → (w : Wait) → wait_in (standing x.iterations s k) ≡ Some w → Stands x.shared.order (1 + k % s) (Some w)
iteration_at code s k x c m w e = by (standing x.iterations s k) refl e
  where
    by : (o : Option Standing) → standing x.iterations s k ≡ o → wait_in o ≡ Some w → Stands x.shared.order (1 + k % s) (Some w)
    by None f v = let z : None ≡ Some w = v in cc
    by (Some a) f v = subst (λ (u : Option Wait). Stands x.shared.order (1 + k % s) u) (ap wait_in (standing_there x.iterations s k a f).0 ∙ v) (c.each (k % s) m)

pub main_due : (code : Code) (s : ℕ) (x : Kept) (b : Bool) → IsCore code s x → b ≡ is_due x.shared.order x.waiting → Decides b (IsReached (machine_of code.variables s x) x.waiting)
main_due code s x b c d = due code s 0 x x.waiting b (main_at code s x c) d

pub iteration_due : (code : Code) (s k : ℕ) (x : Kept) (b : Bool) → IsCore code s x → k % s < s → b ≡ is_due x.shared.order (wait_in (standing x.iterations s k)) → Decides b (IsReady (machine_of code.variables s x) k)
iteration_due code s k x b c m d = due code s (1 + k % s) x (wait_in (standing x.iterations s k)) b (iteration_at code s k x c m) d

pub nothing_ready : (code : Code) (s : ℕ) (x : Kept) → IsCore code s x → ((k : ℕ) → k % s < s) → first_of x.shared.order.ready ≡ None → IsLeast (machine_of code.variables s x) take_ticket
nothing_ready code s x c m e = (
  woken code s 0 x x.waiting (main_at code s x c) e,
  λ k. woken code s (1 + k % s) x (wait_in (standing x.iterations s k)) (iteration_at code s k x c (m k)) e,
)

-- who is ready hasn't retired, and has had its ticket
pub ready_open : (code : Code) (s k : ℕ) (x : Kept) → IsCore code s x → IsReady (machine_of code.variables s x) k → (count_at x.shared.order 0 ≤ k) × (k < x.shared.order.ticket)
ready_open code s k x c r = by (standing x.iterations s k) refl r.1
  where
    by : (o : Option Standing) → standing x.iterations s k ≡ o → wait_in (standing x.iterations s k) ≡ Some r.0 → (count_at x.shared.order 0 ≤ k) × (k < x.shared.order.ticket)
    by None f v = let z : None ≡ Some r.0 = sym (ap wait_in f) ∙ v in cc
    by (Some a) f v =
        let t = standing_there x.iterations s k a f in
        let n = c.numbers (k % s) a t.0 in
        subst (λ (i : ℕ). (count_at x.shared.order 0 ≤ i) × (i < x.shared.order.ticket)) t.1 (n.1, n.2)

-- ---- in the parts that a core keeps

pub due_at : (k at : ℕ) (z : Option Iteration) (b : Bool) (old : Activities) → AreActivities old → at ≡ k % old.slots → z ≡ get_or old.iterations.items at z → b ≡ is_due old.shared.kernel (wait_in (numbered k (option_map standing_of z))) → Decides b (IsReady (point_in old).machine k)
due_at k at z b old a e f d = iteration_due (code_in old) old.slots k (kept_in old) b a.core (place_below old.slots k a.core.some) (sym (due_there k at z b old a e f d))

pub main_there : (b : Bool) (old : Activities) → AreActivities old → b ≡ is_due old.shared.kernel (kept_in old).waiting → Decides b (IsReached (point_in old).machine (point_in old).machine.waiting)
main_there b old a d = main_due (code_in old) old.slots (kept_in old) b a.core d

pub none_there : (old : Activities) → AreActivities old → first_of old.shared.kernel.ready ≡ None → IsLeast (point_in old).machine take_ticket
none_there old a e = nothing_ready (code_in old) old.slots (kept_in old) a.core (λ k. place_below old.slots k a.core.some) e

pub open_there : (k : ℕ) (old : Activities) → AreActivities old → IsReady (point_in old).machine k → (count_at old.shared.kernel 0 ≤ k) × (k < old.shared.kernel.ticket)
open_there k old a r = ready_open (code_in old) old.slots k (kept_in old) a.core r

pub none_of : (o : Option ℕ) (b : Bool) → is_some o ≡ not b → b ≡ true → o ≡ None
none_of None b e f = refl
none_of (Some n) b e f = let z : true ≡ false = e ∙ ap not f in cc
