-- What holds of all that a core keeps holds after a step of an iteration.
use Rattle.std.proofs.Common.{inl, inr, ◌≡◌, ◌∙◌, ℕ, ◌+◌, ◌<◌, List, length, get_or, Option, Some, None, refl, sym, ap, subst, arith}
use Rattle.std.specs.Prelude.{◌%◌}
use Rattle.std.proofs.Math.ListN.{set}
use Rattle.std.proofs.lemmas.Bool.{cases_eq}
use Rattle.std.proofs.lemmas.List.{get_or-set_same, get_or-set_other, length-set}
use Rattle.ec_kernel.specs.View.{View, IsKernel, count_at, advanced}
use Rattle.machine.specs.Code.{Code}
use Rattle.machine.specs.State.{Wait, the_main, iteration}
use Rattle.machine.specs.declared.code.Open.{Open}
use Rattle.activities.specs.Core.{HaveIndices, IsCore, IsRunning}
use Rattle.activities.specs.Parts.{Kept, Shared, Standing, held_of, wait_in}
use Rattle.activities.specs.Waiting.{Stands}
use Rattle.activities.proofs.Queues.{advances}

-- a kernel in which everybody stands as before, or is ready now
pub record Onward (x y : View) : Type 0 where
  pub kernel : IsKernel y
  pub slots : y.slots ≡ x.slots
  pub counts : length y.counts ≡ length x.counts
  pub ticket : y.ticket ≡ x.ticket
  pub first : count_at y 0 ≡ count_at x 0
  pub stands : (t : ℕ) (w : Option Wait) → Stands x t w → Stands y t w

pub still : (x : View) → IsKernel x → Onward x x
still x k = record { kernel = k; slots = refl; counts = refl; ticket = refl; first = refl; stands = λ t w h. h }

pub advanced_onward : (x : View) (e : ℕ) → 0 < e → e < length x.counts → IsKernel x → IsKernel (advanced x e) → Onward x (advanced x e)
advanced_onward x e p l k j = record {
  kernel = j;
  slots = refl;
  counts = length-set x.counts e (count_at x e + 1);
  ticket = refl;
  first = get_or-set_other x.counts e 0 (count_at x e + 1) 0 (λ z. omega (arith, z, p));
  stands = λ t w h. advances x e t w l k j h;
}

-- what stands in the place of iteration k is that iteration
pub alone : (code : Code) (s k : ℕ) (x : Kept) (a : Standing) → IsCore code s x → get_or x.iterations (k % s) None ≡ Some a → a.number ≡ k → (j : ℕ) → j % s ≡ k % s → IsRunning s j x → j ≡ k
alone code s k x a i h n j e r =
    let same : a ≡ r.standing = (let z : Some a ≡ Some r.standing = sym h ∙ ap (λ (p : ℕ). get_or x.iterations p None) (sym e) ∙ r.here in cc) in
    sym r.number ∙ sym (ap (λ (z : Standing). z.number) same) ∙ n

-- ---- it goes on

pub stays_core : (code : Code) (s k : ℕ) (x : Kept) (a b : Standing) (y : Shared) → IsCore code s x → get_or x.iterations (k % s) None ≡ Some a → a.number ≡ k → a.wait ≡ None → k % s < s
    → b.number ≡ k → b.wait ≡ None → Onward x.shared.order y.order → length y.cells ≡ length x.shared.cells → y.loop ≡ x.shared.loop
    → IsCore code s (record x { shared = y; iterations = set x.iterations (k % s) (Some b) })
stays_core code s k x a b y i h n w l m v o c same_loop = record {
  some = i.some;
  kernel = o.kernel;
  slots = o.slots ∙ i.slots;
  counts = o.counts ∙ i.counts;
  ticket = omega (arith, o.ticket, i.ticket);
  turn = omega (arith, i.turn, o.first, o.ticket);
  cells = c ∙ i.cells;
  indices = subst (λ (l : Option Open). HaveIndices code l) (sym same_loop) i.indices;
  room = length-set x.iterations (k % s) (Some b) ∙ i.room;
  main = o.stands 0 x.waiting i.main;
  each = λ j p. elim (cases_eq j (k % s)) [
    | inl e ↦ (
        let old : Stands x.shared.order (1 + j) None = subst (λ (u : Option Wait). Stands x.shared.order (1 + j) u) (ap (λ (q : ℕ). wait_in (get_or x.iterations q None)) e ∙ ap wait_in h ∙ w) (i.each j p) in
        let new : wait_in (get_or (set x.iterations (k % s) (Some b)) j None) ≡ None = ap (λ (q : ℕ). wait_in (get_or (set x.iterations (k % s) (Some b)) q None)) e ∙ ap wait_in here ∙ v in
        subst (λ (u : Option Wait). Stands y.order (1 + j) u) (sym new) (o.stands (1 + j) None old)
        )
    | inr d ↦ subst (λ (u : Option Standing). Stands y.order (1 + j) (wait_in u)) (sym (get_or-set_other x.iterations (k % s) j (Some b) None d)) (o.stands (1 + j) (wait_in (get_or x.iterations j None)) (i.each j p))
  ];
  numbers = λ j z g. elim (cases_eq j (k % s)) [
    | inl e ↦ (
        let same : b ≡ z = (let q : Some b ≡ Some z = sym here ∙ ap (λ (p : ℕ). get_or (set x.iterations (k % s) (Some b)) p None) (sym e) ∙ g in cc) in
        let old = i.numbers (k % s) a h in
        let num : z.number ≡ a.number = sym (ap (λ (t : Standing). t.number) same) ∙ m ∙ sym n in
        (ap (λ (t : ℕ). t % s) num ∙ old.0 ∙ sym e, omega (arith, old.1, num, o.first), omega (arith, old.2, num, o.ticket))
        )
    | inr d ↦ (
        let old = i.numbers j z (sym (get_or-set_other x.iterations (k % s) j (Some b) None d) ∙ g) in
        (old.0, omega (arith, old.1, o.first), omega (arith, old.2, o.ticket))
        )
  ];
  leads = i.leads;
  runs = λ q j g. elim (cases_eq (j % s) (k % s)) [
    | inl e ↦ (
        let j_is : j ≡ k = alone code s k x a i h n j e (i.runs q j g) in
        record { standing = b; here = ap (λ (p : ℕ). get_or (set x.iterations (k % s) (Some b)) p None) e ∙ here; number = m ∙ sym j_is; wait = v }
        )
    | inr d ↦ (
        let r = i.runs q j g in
        record { standing = r.standing; here = get_or-set_other x.iterations (k % s) (j % s) (Some b) None d ∙ r.here; number = r.number; wait = r.wait }
        )
  ];
  apart = i.apart;
}
  where
    here : get_or (set x.iterations (k % s) (Some b)) (k % s) None ≡ Some b
    here = get_or-set_same x.iterations (k % s) (Some b) None (omega (arith, l, i.room))

-- ---- it is parked, or has retired

idle_at : {A : Type 0} (xs : List (Option A)) (q r : ℕ) (u : A) → q < length xs → get_or (set xs q None) r None ≡ Some u → (r ≡ q → ⊥) × (get_or xs r None ≡ Some u)
idle_at xs q r u l e = elim (cases_eq r q) [
  | inl h ↦ (let z : None ≡ Some u = sym (ap (λ (p : ℕ). get_or (set xs q None) p None) h ∙ get_or-set_same xs q None None l) ∙ e in cc)
  | inr d ↦ (d, sym (get_or-set_other xs q r None None d) ∙ e)
]

pub held_other : {A : Type 0} (xs : List (Option A)) (q r : ℕ) (u : A) → q < length xs → held_of (set xs q None) r ≡ Some u → (r ≡ q → ⊥) × (held_of xs r ≡ Some u)
unfolding held_of
held_other xs q r u l e = idle_at xs q r u l e

-- a kernel in which one slot stands elsewhere, and everybody else as before
pub record Beside (x y : View) (t : ℕ) (w : Option Wait) : Type 0 where
  pub kernel : IsKernel y
  pub slots : y.slots ≡ x.slots
  pub counts : length y.counts ≡ length x.counts
  pub ticket : y.ticket ≡ x.ticket
  pub itself : Stands y t w
  pub others : (u : ℕ) (v : Option Wait) → (u ≡ t → ⊥) → Stands x u v → Stands y u v

-- no other processor holds it
not_held : (code : Code) (s q r j k : ℕ) (x : Kept) (a : Standing) → IsCore code s x → get_or x.iterations (k % s) None ≡ Some a → a.number ≡ k → held_of x.held q ≡ Some (iteration k) → (r ≡ q → ⊥) → held_of x.held r ≡ Some (iteration j) → j % s ≡ k % s → ⊥
not_held code s q r j k x a i h n u d g e =
    let j_is : j ≡ k = alone code s k x a i h n j e (i.runs r j g) in
    d (i.apart r q (iteration k) (subst (λ (p : ℕ). held_of x.held r ≡ Some (iteration p)) j_is g) u)

pub parks_core : (code : Code) (s q k : ℕ) (x : Kept) (a : Standing) (y : Shared) (w : Wait) → IsCore code s x → get_or x.iterations (k % s) None ≡ Some a → a.number ≡ k → k % s < s → held_of x.held q ≡ Some (iteration k) → q < length x.held
    → Beside x.shared.order y.order (1 + k % s) (Some w) → count_at y.order 0 ≡ count_at x.shared.order 0 → length y.cells ≡ length x.shared.cells → y.loop ≡ x.shared.loop
    → IsCore code s (record x { shared = y; iterations = set x.iterations (k % s) (Some (record a { wait = Some w })); held = set x.held q None })
parks_core code s q k x a y w i h n l u b o f c same_loop = record {
  some = i.some;
  kernel = o.kernel;
  slots = o.slots ∙ i.slots;
  counts = o.counts ∙ i.counts;
  ticket = omega (arith, o.ticket, i.ticket);
  turn = omega (arith, i.turn, f, o.ticket);
  cells = c ∙ i.cells;
  indices = subst (λ (l : Option Open). HaveIndices code l) (sym same_loop) i.indices;
  room = length-set x.iterations (k % s) (Some now) ∙ i.room;
  main = o.others 0 x.waiting (λ z. omega (arith, z)) i.main;
  each = λ j p. elim (cases_eq j (k % s)) [
    | inl e ↦ (
        let new : wait_in (get_or (set x.iterations (k % s) (Some now)) j None) ≡ Some w = ap (λ (r : ℕ). wait_in (get_or (set x.iterations (k % s) (Some now)) r None)) e ∙ ap wait_in here in
        subst (λ (v : Option Wait). Stands y.order (1 + j) v) (sym new) (subst (λ (r : ℕ). Stands y.order (1 + r) (Some w)) (sym e) o.itself)
        )
    | inr d ↦ subst (λ (z : Option Standing). Stands y.order (1 + j) (wait_in z)) (sym (get_or-set_other x.iterations (k % s) j (Some now) None d)) (o.others (1 + j) (wait_in (get_or x.iterations j None)) (λ z. d (omega (arith, z))) (i.each j p))
  ];
  numbers = λ j z g. elim (cases_eq j (k % s)) [
    | inl e ↦ (
        let same : now ≡ z = (let r : Some now ≡ Some z = sym here ∙ ap (λ (p : ℕ). get_or (set x.iterations (k % s) (Some now)) p None) (sym e) ∙ g in cc) in
        let old = i.numbers (k % s) a h in
        let num : z.number ≡ a.number = sym (ap (λ (t : Standing). t.number) same) in
        (ap (λ (t : ℕ). t % s) num ∙ old.0 ∙ sym e, omega (arith, old.1, num, f), omega (arith, old.2, num, o.ticket))
        )
    | inr d ↦ (
        let old = i.numbers j z (sym (get_or-set_other x.iterations (k % s) j (Some now) None d) ∙ g) in
        (old.0, omega (arith, old.1, f), omega (arith, old.2, o.ticket))
        )
  ];
  leads = λ r g. i.leads r (held_other x.held q r the_main b g).1;
  runs = λ r j g. (
      let g2 = held_other x.held q r (iteration j) b g in
      let old = i.runs r j g2.1 in
      record {
        standing = old.standing;
        here = get_or-set_other x.iterations (k % s) (j % s) (Some now) None (not_held code s q r j k x a i h n u g2.0 g2.1) ∙ old.here;
        number = old.number;
        wait = old.wait;
      }
      );
  apart = λ r t v g e. i.apart r t v (held_other x.held q r v b g).1 (held_other x.held q t v b e).1;
}
  where
    now : Standing
    now = record a { wait = Some w }

    here : get_or (set x.iterations (k % s) (Some now)) (k % s) None ≡ Some now
    here = get_or-set_same x.iterations (k % s) (Some now) None (omega (arith, l, i.room))

pub leaves_core : (code : Code) (s q k : ℕ) (x : Kept) (a : Standing) (y : Shared) → IsCore code s x → get_or x.iterations (k % s) None ≡ Some a → a.number ≡ k → k % s < s → held_of x.held q ≡ Some (iteration k) → q < length x.held
    → count_at x.shared.order 0 ≡ k → Beside x.shared.order y.order (1 + k % s) None → count_at y.order 0 ≡ k + 1 → length y.cells ≡ length x.shared.cells → y.loop ≡ x.shared.loop
    → IsCore code s (record x { shared = y; iterations = set x.iterations (k % s) None; held = set x.held q None })
leaves_core code s q k x a y i h n l u b t o f c same_loop = record {
  some = i.some;
  kernel = o.kernel;
  slots = o.slots ∙ i.slots;
  counts = o.counts ∙ i.counts;
  ticket = omega (arith, o.ticket, i.ticket);
  turn = omega (arith, (i.numbers (k % s) a h).2, n, f, o.ticket);
  cells = c ∙ i.cells;
  indices = subst (λ (l : Option Open). HaveIndices code l) (sym same_loop) i.indices;
  room = length-set x.iterations (k % s) None ∙ i.room;
  main = o.others 0 x.waiting (λ z. omega (arith, z)) i.main;
  each = λ j p. elim (cases_eq j (k % s)) [
    | inl e ↦ (
        let new : wait_in (get_or (set x.iterations (k % s) None) j None) ≡ None = ap (λ (r : ℕ). wait_in (get_or (set x.iterations (k % s) None) r None)) e ∙ ap wait_in here in
        subst (λ (v : Option Wait). Stands y.order (1 + j) v) (sym new) (subst (λ (r : ℕ). Stands y.order (1 + r) None) (sym e) o.itself)
        )
    | inr d ↦ subst (λ (z : Option Standing). Stands y.order (1 + j) (wait_in z)) (sym (get_or-set_other x.iterations (k % s) j None None d)) (o.others (1 + j) (wait_in (get_or x.iterations j None)) (λ z. d (omega (arith, z))) (i.each j p))
  ];
  numbers = λ j z g. elim (cases_eq j (k % s)) [
    | inl e ↦ (let r : None ≡ Some z = sym (ap (λ (p : ℕ). get_or (set x.iterations (k % s) None) p None) e ∙ here) ∙ g in cc)
    | inr d ↦ (
        let old = i.numbers j z (sym (get_or-set_other x.iterations (k % s) j None None d) ∙ g) in
        let other : z.number ≡ k → ⊥ = λ e. d (sym old.0 ∙ ap (λ (p : ℕ). p % s) e) in
        (old.0, omega (arith, old.1, other, f, t), omega (arith, old.2, o.ticket))
        )
  ];
  leads = λ r g. i.leads r (held_other x.held q r the_main b g).1;
  runs = λ r j g. (
      let g2 = held_other x.held q r (iteration j) b g in
      let old = i.runs r j g2.1 in
      record {
        standing = old.standing;
        here = get_or-set_other x.iterations (k % s) (j % s) None None (not_held code s q r j k x a i h n u g2.0 g2.1) ∙ old.here;
        number = old.number;
        wait = old.wait;
      }
      );
  apart = λ r z v g e. i.apart r z v (held_other x.held q r v b g).1 (held_other x.held q z v b e).1;
}
  where
    here : get_or (set x.iterations (k % s) None) (k % s) None ≡ None
    here = get_or-set_same x.iterations (k % s) None None (omega (arith, l, i.room))
