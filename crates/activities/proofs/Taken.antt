-- What holds of all that a core keeps holds after something was taken up, and that is what the
-- machine does.
use Rattle.std.proofs.Common.{inl, inr, ◌≡◌, ◌∙◌, ◌⊎◌, ℕ, ◌+◌, ◌<◌, ◌^◌, true, List, length, get_or, Option, Some, None, refl, sym, ap, subst, arith}
use Rattle.std.specs.Prelude.{◌/◌, ◌%◌}
use Rattle.std.proofs.Math.Nat.{div-add-mod, mul-le-mul_left}
use Rattle.std.proofs.Math.ListN.{set}
use Rattle.std.proofs.lemmas.Bool.{cases_eq, cases_lt, leb-true, le-leb}
use Rattle.std.proofs.lemmas.List.{get_or-set_same, get_or-set_other, length-set}
use Rattle.ec_kernel.specs.View.{View, IsKernel, count_at, times}
use Rattle.machine.specs.Code.{Code}
use Rattle.machine.specs.State.{Reached, Wait, until_count, until_retired, Who, the_main, iteration}
use Rattle.machine.specs.declared.code.Open.{Open}
use Rattle.activities.specs.Core.{IsCore, IsRunning}
use Rattle.activities.specs.Parts.{Kept, Standing, held_of, machine_of, wait_in}
use Rattle.activities.specs.Picking.{begun, is_due, iteration_up, main_up, no_longer_ready, ticket_up}
use Rattle.activities.specs.Waiting.{Stands}
use Rattle.activities.proofs.Maps.{count_is}
use Rattle.activities.proofs.Queues.{reached_ready, takes_itself, takes_other}

-- ---- what a processor that got something holds

taken_at : {A : Type 0} (xs : List (Option A)) (q r : ℕ) (v u : A) → q < length xs → get_or (set xs q (Some v)) r None ≡ Some u → ((r ≡ q) × (u ≡ v)) ⊎ ((r ≡ q → ⊥) × (get_or xs r None ≡ Some u))
taken_at xs q r v u l e = elim (cases_eq r q) [
  | inl h ↦ inl (h, (let z : Some v ≡ Some u = sym (ap (λ (p : ℕ). get_or (set xs q (Some v)) p None) h ∙ get_or-set_same xs q (Some v) None l) ∙ e in cc))
  | inr d ↦ inr (d, sym (get_or-set_other xs q r (Some v) None d) ∙ e)
]

held_now : {A : Type 0} (xs : List (Option A)) (q r : ℕ) (v u : A) → q < length xs → held_of (set xs q (Some v)) r ≡ Some u → ((r ≡ q) × (u ≡ v)) ⊎ ((r ≡ q → ⊥) × (held_of xs r ≡ Some u))
unfolding held_of
held_now xs q r v u l e = taken_at xs q r v u l e

-- an activity that no processor held
apart_now : (xs : List (Option Who)) (q : ℕ) (v : Who) → q < length xs → ((r : ℕ) → held_of xs r ≡ Some v → ⊥) → ((r t : ℕ) (u : Who) → held_of xs r ≡ Some u → held_of xs t ≡ Some u → r ≡ t)
    → (r t : ℕ) (u : Who) → held_of (set xs q (Some v)) r ≡ Some u → held_of (set xs q (Some v)) t ≡ Some u → r ≡ t
apart_now xs q v l f a r t u g h = elim (held_now xs q r v u l g) [
  | inl x ↦ elim (held_now xs q t v u l h) [
    | inl y ↦ x.0 ∙ sym y.0
    | inr y ↦ absurd (f t (y.1 ∙ ap (λ (w : Who). Some w) x.1))
  ]
  | inr x ↦ elim (held_now xs q t v u l h) [
    | inl y ↦ absurd (f r (x.1 ∙ ap (λ (w : Who). Some w) y.1))
    | inr y ↦ a r t u x.1 y.1
  ]
]

-- ---- main

pub main_up_core : (code : Code) (s q : ℕ) (w : Wait) (x : Kept) → IsCore code s x → x.waiting ≡ Some w → 0 < times 0 x.shared.order.ready → q < length x.held → IsKernel (no_longer_ready 0 x.shared.order) → IsCore code s (main_up q x)
main_up_core code s q w x c e h l k = record {
  some = c.some;
  kernel = k;
  slots = c.slots;
  counts = c.counts;
  ticket = c.ticket;
  turn = c.turn;
  cells = c.cells;
  indices = c.indices;
  room = c.room;
  main = takes_itself x.shared.order 0 c.kernel h;
  each = λ j p. takes_other x.shared.order (1 + j) 0 (wait_in (get_or x.iterations j None)) (λ z. omega (arith, z)) (c.each j p);
  numbers = c.numbers;
  leads = λ r g. refl;
  runs = λ r j g. elim (held_now x.held q r the_main (iteration j) l g) [
    | inl z ↦ (let d = z.1 in cc)
    | inr z ↦ (let o = c.runs r j z.1 in record { standing = o.standing; here = o.here; number = o.number; wait = o.wait })
  ];
  apart = apart_now x.held q the_main l (λ r g. let z : Some w ≡ None = sym e ∙ c.leads r g in cc) c.apart;
}

-- ---- an iteration

pub iteration_up_core : (code : Code) (s q : ℕ) (w : Wait) (a : Standing) (x : Kept) → IsCore code s x → get_or x.iterations (a.number % s) None ≡ Some a → a.wait ≡ Some w → a.number % s < s → 0 < times (1 + a.number % s) x.shared.order.ready → q < length x.held
    → IsKernel (no_longer_ready (1 + a.number % s) x.shared.order) → IsCore code s (iteration_up q (a.number % s) a x)
iteration_up_core code s q w a x c h e m t l k = record {
  some = c.some;
  kernel = k;
  slots = c.slots;
  counts = c.counts;
  ticket = c.ticket;
  turn = c.turn;
  cells = c.cells;
  indices = c.indices;
  room = length-set x.iterations at (Some b) ∙ c.room;
  main = takes_other x.shared.order 0 (1 + at) x.waiting (λ z. omega (arith, z)) c.main;
  each = λ j p. elim (cases_eq j at) [
    | inl z ↦ subst (λ (i : ℕ). Stands (no_longer_ready (1 + at) x.shared.order) (1 + i) (wait_in (get_or (set x.iterations at (Some b)) i None))) (sym z)
        (subst (λ (o : Option Standing). Stands (no_longer_ready (1 + at) x.shared.order) (1 + at) (wait_in o)) (sym here) (takes_itself x.shared.order (1 + at) c.kernel t))
    | inr d ↦ subst (λ (o : Option Standing). Stands (no_longer_ready (1 + at) x.shared.order) (1 + j) (wait_in o)) (sym (get_or-set_other x.iterations at j (Some b) None d))
        (takes_other x.shared.order (1 + j) (1 + at) (wait_in (get_or x.iterations j None)) (λ z. d (omega (arith, z))) (c.each j p))
  ];
  numbers = λ j z g. elim (cases_eq j at) [
    | inl i ↦ (
        let same : b ≡ z = (let y : Some b ≡ Some z = sym here ∙ ap (λ (p : ℕ). get_or (set x.iterations at (Some b)) p None) (sym i) ∙ g in cc) in
        let old = c.numbers at a h in
        let num : z.number ≡ a.number = sym (ap (λ (u : Standing). u.number) same) in
        (ap (λ (u : ℕ). u % s) num ∙ sym i, omega (arith, old.1, num), omega (arith, old.2, num))
        )
    | inr d ↦ c.numbers j z (sym (get_or-set_other x.iterations at j (Some b) None d) ∙ g)
  ];
  leads = λ r g. elim (held_now x.held q r (iteration a.number) the_main l g) [
    | inl z ↦ (let d = z.1 in cc)
    | inr z ↦ c.leads r z.1
  ];
  runs = λ r j g. elim (held_now x.held q r (iteration a.number) (iteration j) l g) [
    | inl z ↦ (
        let num : j ≡ a.number = (let d = z.1 in cc) in
        record { standing = b; here = ap (λ (i : ℕ). get_or (set x.iterations at (Some b)) (i % s) None) num ∙ here; number = sym num; wait = refl }
        )
    | inr z ↦ (
        let o = c.runs r j z.1 in
        record {
          standing = o.standing;
          here = get_or-set_other x.iterations at (j % s) (Some b) None (λ i. parked o i) ∙ o.here;
          number = o.number;
          wait = o.wait;
        }
        )
  ];
  apart = apart_now x.held q (iteration a.number) l (λ r g. parked (c.runs r a.number g) refl) c.apart;
}
  where
    at : ℕ
    at = a.number % s

    b : Standing
    b = record a { wait = None }

    here : get_or (set x.iterations at (Some b)) at None ≡ Some b
    here = get_or-set_same x.iterations at (Some b) None (omega (arith, m, c.room))

    -- what is parked there isn't held
    parked : {j : ℕ} → IsRunning s j x → j % s ≡ at → ⊥
    parked {j} o i =
        let same : a ≡ o.standing = (let z : Some a ≡ Some o.standing = sym h ∙ ap (λ (p : ℕ). get_or x.iterations p None) (sym i) ∙ o.here in cc) in
        let z : Some w ≡ None = sym e ∙ ap (λ (u : Standing). u.wait) same ∙ o.wait in
        cc

-- ---- a ticket

apart_numbers : (s m n : ℕ) → m < n → n < m + s → m % s ≡ n % s → ⊥
apart_numbers s m n h k e = elim (cases_lt (m / s) (n / s)) [
  | inl l ↦ absurd (omega (arith, mul-le-mul_left {m = m / s + 1} {n = n / s} s (omega (arith, l)), div-add-mod m s, div-add-mod n s, e, k))
  | inr l ↦ absurd (omega (arith, mul-le-mul_left {m = n / s} {n = m / s} s l, div-add-mod m s, div-add-mod n s, e, h))
]

-- no iteration stands where the next one would
pub place_free : (code : Code) (s : ℕ) (x : Kept) → IsCore code s x → x.shared.order.ticket < count_at x.shared.order 0 + s → get_or x.iterations (x.shared.order.ticket % s) None ≡ None
place_free code s x c h = by (get_or x.iterations (x.shared.order.ticket % s) None) refl
  where
    by : (o : Option Standing) → get_or x.iterations (x.shared.order.ticket % s) None ≡ o → o ≡ None
    by None e = refl
    by (Some a) e = let n = c.numbers (x.shared.order.ticket % s) a e in absurd (apart_numbers s a.number x.shared.order.ticket n.2 (omega (arith, n.1, h)) n.0)

pub ticket_up_core : (code : Code) (s q : ℕ) (l : Open) (x : Kept) → IsCore code s x → get_or x.iterations (x.shared.order.ticket % s) None ≡ None → x.shared.order.ticket % s < s → x.shared.order.ticket + 1 < 2 ^ 128 → q < length x.held
    → IsKernel (record x.shared.order { ticket = x.shared.order.ticket + 1 }) → IsCore code s (ticket_up code s q l x)
ticket_up_core code s q l x c h m t u k = record {
  some = c.some;
  kernel = k;
  slots = c.slots;
  counts = c.counts;
  ticket = t;
  turn = omega (arith, c.turn);
  cells = c.cells;
  indices = c.indices;
  room = length-set x.iterations at (Some b) ∙ c.room;
  main = same_stands 0 x.waiting c.main;
  each = λ j p. elim (cases_eq j at) [
    | inl z ↦ subst (λ (i : ℕ). Stands new (1 + i) (wait_in (get_or (set x.iterations at (Some b)) i None))) (sym z)
        (subst (λ (o : Option Standing). Stands new (1 + at) (wait_in o)) (sym here) (same_stands (1 + at) None (subst (λ (o : Option Standing). Stands x.shared.order (1 + at) (wait_in o)) h (c.each at m))))
    | inr d ↦ subst (λ (o : Option Standing). Stands new (1 + j) (wait_in o)) (sym (get_or-set_other x.iterations at j (Some b) None d)) (same_stands (1 + j) (wait_in (get_or x.iterations j None)) (c.each j p))
  ];
  numbers = λ j z g. elim (cases_eq j at) [
    | inl i ↦ (
        let same : b ≡ z = (let y : Some b ≡ Some z = sym here ∙ ap (λ (p : ℕ). get_or (set x.iterations at (Some b)) p None) (sym i) ∙ g in cc) in
        let num : z.number ≡ n = sym (ap (λ (v : Standing). v.number) same) in
        (ap (λ (v : ℕ). v % s) num ∙ sym i, omega (arith, c.turn, num), omega (arith, num))
        )
    | inr d ↦ (let o = c.numbers j z (sym (get_or-set_other x.iterations at j (Some b) None d) ∙ g) in (o.0, o.1, omega (arith, o.2)))
  ];
  leads = λ r g. elim (held_now x.held q r (iteration n) the_main u g) [
    | inl z ↦ (let d = z.1 in cc)
    | inr z ↦ c.leads r z.1
  ];
  runs = λ r j g. elim (held_now x.held q r (iteration n) (iteration j) u g) [
    | inl z ↦ (
        let num : j ≡ n = (let d = z.1 in cc) in
        record { standing = b; here = ap (λ (i : ℕ). get_or (set x.iterations at (Some b)) (i % s) None) num ∙ here; number = sym num; wait = refl }
        )
    | inr z ↦ (
        let o = c.runs r j z.1 in
        record {
          standing = o.standing;
          here = get_or-set_other x.iterations at (j % s) (Some b) None (λ i. nobody o i) ∙ o.here;
          number = o.number;
          wait = o.wait;
        }
        )
  ];
  apart = apart_now x.held q (iteration n) u (λ r g. nobody (c.runs r n g) refl) c.apart;
}
  where
    n : ℕ
    n = x.shared.order.ticket

    at : ℕ
    at = n % s

    b : Standing
    b = begun code l n

    new : View
    new = record x.shared.order { ticket = n + 1 }

    here : get_or (set x.iterations at (Some b)) at None ≡ Some b
    here = get_or-set_same x.iterations at (Some b) None (omega (arith, m, c.room))

    same_stands : (t : ℕ) (w : Option Wait) → Stands x.shared.order t w → Stands new t w
    same_stands t None z = z
    same_stands t (Some (until_count e v)) z = z
    same_stands t (Some (until_retired v)) z = z

    nobody : {j : ℕ} → IsRunning s j x → j % s ≡ at → ⊥
    nobody {j} o i = let z : None ≡ Some o.standing = sym h ∙ ap (λ (p : ℕ). get_or x.iterations p None) (sym i) ∙ o.here in cc

-- ---- what has been reached

pub reached_in : (code : Code) (s slot : ℕ) (x : Kept) (w : Wait) → Stands x.shared.order slot (Some w) → is_due x.shared.order (Some w) ≡ true → Reached (machine_of code.variables s x) w
reached_in code s slot x (until_count e v) h d = omega (arith, leb-true v (count_at x.shared.order e) d, count_is x.shared.order.counts e (λ z. omega (arith, z, h.0)))
reached_in code s slot x (until_retired v) h d = leb-true v (count_at x.shared.order 0) d

pub due_in : (code : Code) (s slot : ℕ) (x : Kept) (w : Wait) → Stands x.shared.order slot (Some w) → Reached (machine_of code.variables s x) w → is_due x.shared.order (Some w) ≡ true
due_in code s slot x (until_count e v) h r = le-leb v (count_at x.shared.order e) (omega (arith, r, count_is x.shared.order.counts e (λ z. omega (arith, z, h.0))))
due_in code s slot x (until_retired v) h r = le-leb v (count_at x.shared.order 0) r

pub due_ready : (x : View) (slot : ℕ) (w : Wait) → Stands x slot (Some w) → is_due x (Some w) ≡ true → 0 < times slot x.ready
due_ready x slot (until_count e v) h d = reached_ready x slot (until_count e v) h (leb-true v (count_at x e) d)
due_ready x slot (until_retired v) h d = reached_ready x slot (until_retired v) h (leb-true v (count_at x 0) d)
