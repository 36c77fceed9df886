-- What a step asks holds in a core.
use Rattle.std.proofs.Common.{inl, inr, ◌≡◌, ◌∙◌, ℕ, zero, suc, ◌+◌, ◌<◌, true, List, [], ◌∷◌, length, get_or, Option, Some, None, refl, ap, subst, arith}
use Rattle.std.specs.Prelude.{◌%◌, ◌==◌, map}
use Rattle.std.proofs.lemmas.Bool.{cases_eq, cases_lt, eq-eqb}
use Rattle.ec_kernel.specs.View.{NoWaiter, places, times, times_waiting}
use Rattle.machine.specs.Code.{Code}
use Rattle.machine.specs.Laid.{are_distinct, are_laid, names_in}
use Rattle.machine.specs.State.{Wait, the_main, iteration}
use Rattle.activities.specs.Core.{IsCore}
use Rattle.activities.specs.MainTurns.{MayLead}
use Rattle.activities.specs.Parts.{Kept, held_of, wait_in}
use Rattle.activities.specs.Turns.{May, none_open}
use Rattle.activities.specs.Waiting.{Stands}
use Rattle.activities.proofs.Leading.{Leads, none_standing}
use Rattle.activities.proofs.Turning.{Runs}

-- code that is laid out
pub record IsLaid (code : Code) : Type 0 where
  pub laid : are_laid 0 code.variables ≡ true
  pub distinct : are_distinct (names_in code.variables) ≡ true

within_held : {A : Type 0} (xs : List (Option A)) (q : ℕ) (u : A) → get_or xs q None ≡ Some u → q < length xs
within_held [] q u e = cc
within_held (x ∷ xs) zero u e = omega arith
within_held (x ∷ xs) (suc q) u e = omega (arith, within_held xs q u e)

pub held_within : {A : Type 0} (xs : List (Option A)) (q : ℕ) (u : A) → held_of xs q ≡ Some u → q < length xs
unfolding held_of
held_within xs q u e = within_held xs q u e

pub place_below : (s k : ℕ) → 0 < s → k % s < s
place_below s k h = omega arith

-- an iteration that is held
pub runs_of : (code : Code) (s q k : ℕ) (x : Kept) (i : IsCore code s x) → IsLaid code → x.shared.ended ≡ None → (h : held_of x.held q ≡ Some (iteration k)) → Runs code s q k (i.runs q k h).standing x
runs_of code s q k x i l g h =
    let r = i.runs q k h in
    let n = i.numbers (k % s) r.standing r.here in
    record {
      here = r.here;
      number = r.number;
      running = r.wait;
      room = omega (arith, place_below s k i.some, i.room);
      holds = h;
      below = held_within x.held q (iteration k) h;
      laid = l.laid;
      distinct = l.distinct;
      cells = i.cells;
      counts = i.counts;
      turn = omega (arith, n.1, r.number);
      going = g;
    }

pub may_run : (code : Code) (s q k : ℕ) (x : Kept) (i : IsCore code s x) → (h : held_of x.held q ≡ Some (iteration k)) → May code (1 + k % s) x.shared (i.runs q k h).standing
may_run code s q k x i h =
    let r = i.runs q k h in
    let n = i.numbers (k % s) r.standing r.here in
    let b = place_below s k i.some in
    record {
      kernel = i.kernel;
      counts = i.counts;
      slot_in_range = omega (arith, b, i.slots);
      nowhere = subst (λ (w : Option Wait). Stands x.shared.order (1 + k % s) w) (ap wait_in r.here ∙ r.wait) (i.each (k % s) b);
      number = omega (arith, n.2, i.ticket);
      turn = n.1;
      cells = i.cells;
    }

-- ---- main

nobody_there : (w : ℕ × ℕ) (ws : List (ℕ × ℕ)) → times w.1 (map (λ v. v.1) (w ∷ ws)) ≡ 0 → ⊥
nobody_there w ws h = let e : (w.1 == w.1) ≡ true = eq-eqb w.1 w.1 refl in absurd (omega (arith, rw e at h))

none_waits : (ls : List (List (ℕ × ℕ))) → ((t : ℕ) → times_waiting t ls ≡ 0) → NoWaiter ls
none_waits [] h = tt
none_waits ([] ∷ ls) h = (refl, none_waits ls (λ t. omega (arith, h t)))
none_waits ((w ∷ ws) ∷ ls) h = absurd (nobody_there w ws (omega (arith, h w.1)))

nowhere_at : (code : Code) (s : ℕ) (x : Kept) → IsCore code s x → x.waiting ≡ None → none_open x.iterations ≡ true → (t : ℕ) → places t x.shared.order ≡ 0
nowhere_at code s x i w o zero = subst (λ (v : Option Wait). Stands x.shared.order 0 v) w i.main
nowhere_at code s x i w o (suc j) = elim (cases_lt j s) [
  | inl h ↦ (
      let e : 1 + j ≡ suc j = omega arith in
      subst (λ (n : ℕ). places n x.shared.order ≡ 0) e (subst (λ (v : Option Wait). Stands x.shared.order (1 + j) v) (ap wait_in (none_standing x.iterations j o)) (i.each j h))
      )
  | inr h ↦ elim (cases_eq (places (suc j) x.shared.order) 0) [
    | inl e ↦ e
    | inr d ↦ absurd (omega (arith, i.kernel.in_range (suc j) (omega (arith, d)), i.slots, h))
  ]
]

pub leads_of : (code : Code) (s q : ℕ) (x : Kept) → IsCore code s x → IsLaid code → x.shared.ended ≡ None → held_of x.held q ≡ Some the_main → Leads code q x
leads_of code s q x i l g h = record {
  holds = h;
  below = held_within x.held q the_main h;
  laid = l.laid;
  distinct = l.distinct;
  cells = i.cells;
  counts = i.counts;
  going = g;
}

pub may_lead : (code : Code) (s q : ℕ) (x : Kept) → IsCore code s x → held_of x.held q ≡ Some the_main → MayLead code x.shared (none_open x.iterations)
may_lead code s q x i h = record {
  kernel = i.kernel;
  counts = i.counts;
  slot = omega (arith, i.slots);
  nowhere = subst (λ (v : Option Wait). Stands x.shared.order 0 v) (i.leads q h) i.main;
  alone = λ o. none_waits x.shared.order.waiters (λ t. omega (arith, nowhere_at code s x i (i.leads q h) o t));
  cells = i.cells;
}
