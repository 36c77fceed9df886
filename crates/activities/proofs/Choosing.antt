-- What is taken up is what the machine takes up; where it can't be, there is no such step.
use Rattle.std.proofs.Common.{◌≡◌, ◌∙◌, ℕ, ◌+◌, ◌<◌, Bool, true, false, List, length, get_or, Option, Some, None, refl, sym, ap, subst, arith}
use Rattle.std.specs.Prelude.{◌%◌}
use Rattle.std.proofs.Math.ListN.{set}
use Rattle.machine.specs.Code.{Code}
use Rattle.machine.specs.Frame.{Frame}
use Rattle.machine.specs.State.{Active, Choice, take_main, take_iteration, take_ticket, Machine, Wait, Who, the_main, iteration, put_at}
use Rattle.machine.specs.declared.code.Open.{Open}
use Rattle.activities.specs.Core.{IsCore}
use Rattle.activities.specs.Parts.{Kept, Shared, Standing, active, held_of, machine_of, point_of, standing, wait_in}
use Rattle.activities.specs.Picking.{begun, is_due, iteration_up, main_up, ticket_up}
use Rattle.ec_kernel.specs.View.{first_of}
use Rattle.activities.specs.Points.{ByRule, Picks, Point}
use Rattle.activities.specs.Waiting.{Stands}
use Rattle.activities.proofs.Maps.{Mine, held_put, iterations_put, parked_put, put_same, standing_is, standing_there}
use Rattle.activities.proofs.Queues.{first_ready, ready_reached}
use Rattle.activities.proofs.Taken.{due_in, reached_in}

abbrev machine : Code → ℕ → Kept → Machine
machine code s x = machine_of code.variables s x

abbrev point : Code → ℕ → Kept → Point
point code s x = point_of code.variables s x

-- ---- main

pub main_picked : (code : Code) (s q : ℕ) (w : Wait) (x : Kept) → IsCore code s x → x.shared.ended ≡ None → held_of x.held q ≡ None → q < length x.held → x.waiting ≡ Some w → is_due x.shared.order (Some w) ≡ true
    → Picks code s take_main (point code s x) q (point code s (main_up q x))
main_picked code s q w x c g h l e d = record {
  going = g;
  idle = h;
  takes = (
    w,
    e,
    reached_in code s 0 x w (subst (λ (o : Option Wait). Stands x.shared.order 0 o) e c.main) d,
    ap (λ (f : ℕ → Option Who). record (machine code s x) { waiting = None; held = f }) (held_put x.held q (Some the_main) l),
  );
  order = refl;
}

pub main_not_picked : (code : Code) (s q : ℕ) (x : Kept) (b : Point) → IsCore code s x → is_due x.shared.order x.waiting ≡ false → Picks code s take_main (point code s x) q b → ⊥
main_not_picked code s q x b c d p =
    let t = p.takes in
    let due : is_due x.shared.order (Some t.0) ≡ true = due_in code s 0 x t.0 (subst (λ (o : Option Wait). Stands x.shared.order 0 o) t.1 c.main) t.2 in
    let z : true ≡ false = sym due ∙ sym (ap (is_due x.shared.order) t.1) ∙ d in
    cc

-- ---- an iteration

-- the machine after another one stands in a place
abbrev pub placed : Code → ℕ → ℕ → Shared → List (Option Who) → Option Standing → Kept → Kept
placed code s k y hs b x = record x { shared = y; iterations = set x.iterations (k % s) b; held = hs }

pub placed_machine : (code : Code) (s k : ℕ) (x : Kept) (y : Shared) (hs : List (Option Who)) (b : Option Standing) → k % s < length x.iterations → Mine k (get_or x.iterations (k % s) None) → Mine k b
    → machine code s (placed code s k y hs b x)
    ≡ record (machine code s (record x { shared = y; held = hs })) {
      iterations = put_at (λ i. active (standing x.iterations s i)) k (active b);
      parked = put_at (λ i. wait_in (standing x.iterations s i)) k (wait_in b);
    }
placed_machine code s k x y hs b r old m =
    let M : Machine = machine code s (record x { shared = y; held = hs }) in
    ap (λ (f : ℕ → Option (Active Frame)). record M { iterations = f; parked = λ i. wait_in (standing (set x.iterations (k % s) b) s i) }) (iterations_put x.iterations s k b r old m)
    ∙ ap (λ (g : ℕ → Option Wait). record M { iterations = put_at (λ i. active (standing x.iterations s i)) k (active b); parked = g }) (parked_put x.iterations s k b r old m)

pub iteration_picked : (code : Code) (s q k : ℕ) (w : Wait) (a : Standing) (x : Kept) → IsCore code s x → x.shared.ended ≡ None → held_of x.held q ≡ None → q < length x.held → k % s < s → get_or x.iterations (k % s) None ≡ Some a → a.number ≡ k → a.wait ≡ Some w
    → is_due x.shared.order (Some w) ≡ true → Picks code s (take_iteration k) (point code s x) q (point code s (iteration_up q (k % s) a x))
iteration_picked code s q k w a x c g h l m e n v d = record {
  going = g;
  idle = h;
  takes = (
    w,
    ap wait_in here ∙ v,
    reached_in code s (1 + k % s) x w (subst (λ (o : Option Wait). Stands x.shared.order (1 + k % s) o) (ap wait_in e ∙ v) (c.each (k % s) m)) d,
    placed_machine code s k x y (set x.held q (Some (iteration a.number))) (Some b) (omega (arith, m, c.room)) (subst (λ (o : Option Standing). Mine k o) (sym e) n) n
        ∙ ap (λ (f : ℕ → Option (Active Frame)). record M { iterations = f; parked = put_at (λ i. wait_in (standing x.iterations s i)) k None; held = held_of (set x.held q (Some (iteration a.number))) })
        (put_same (λ i. active (standing x.iterations s i)) k (active (Some b)) (ap active here))
        ∙ ap (λ (i : ℕ). record M { parked = put_at (λ i. wait_in (standing x.iterations s i)) k None; held = held_of (set x.held q (Some (iteration i))) }) n
        ∙ ap (λ (f : ℕ → Option Who). record M { parked = put_at (λ i. wait_in (standing x.iterations s i)) k None; held = f }) (held_put x.held q (Some (iteration k)) l),
  );
  order = refl;
}
  where
    b : Standing
    b = record a { wait = None }

    y : Shared
    y = (iteration_up q (k % s) a x).shared

    M : Machine
    M = machine code s x

    here : standing x.iterations s k ≡ Some a
    here = standing_is x.iterations s k (Some a) e n

-- what is parked on what, by its place
abbrev pub due_at : ℕ → Kept → Option Standing → Bool
due_at k x o = is_due x.shared.order (wait_in o)

pub iteration_not_picked : (code : Code) (s q k : ℕ) (x : Kept) (b : Point) → IsCore code s x → k % s < s → is_due x.shared.order (wait_in (standing x.iterations s k)) ≡ false → Picks code s (take_iteration k) (point code s x) q b → ⊥
iteration_not_picked code s q k x b c m d p =
    let t = p.takes in
    let due : is_due x.shared.order (Some t.0) ≡ true = due_in code s (1 + k % s) x t.0 (stands t.1) t.2 in
    let z : true ≡ false = sym due ∙ sym (ap (is_due x.shared.order) t.1) ∙ d in
    cc
  where
    stands : {w : Wait} → wait_in (standing x.iterations s k) ≡ Some w → Stands x.shared.order (1 + k % s) (Some w)
    stands {w} e = by (standing x.iterations s k) refl e
      where
        by : (o : Option Standing) → standing x.iterations s k ≡ o → wait_in o ≡ Some w → Stands x.shared.order (1 + k % s) (Some w)
        by None f v = cc
        by (Some a) f v = subst (λ (u : Option Wait). Stands x.shared.order (1 + k % s) u) (ap wait_in (standing_there x.iterations s k a f).0 ∙ v) (c.each (k % s) m)

-- ---- a ticket

pub ticket_picked : (code : Code) (s q : ℕ) (l : Open) (x : Kept) → IsCore code s x → x.shared.ended ≡ None → held_of x.held q ≡ None → q < length x.held → x.shared.order.ticket % s < s → get_or x.iterations (x.shared.order.ticket % s) None ≡ None
    → x.shared.loop ≡ Some l → x.shared.order.ticket < l.trips → x.shared.order.ticket < get_or x.shared.order.counts 0 0 + s → Picks code s take_ticket (point code s x) q (point code s (ticket_up code s q l x))
ticket_picked code s q l x c g h b m e o t f = record {
  going = g;
  idle = h;
  takes = (
    l,
    o,
    t,
    f,
    placed_machine code s n x y (set x.held q (Some (iteration n))) (Some (begun code l n)) (omega (arith, m, c.room)) (subst (λ (z : Option Standing). Mine n z) (sym e) tt) refl
        ∙ ap (λ (p : ℕ → Option Wait). record M { ticket = n + 1; iterations = put_at (λ i. active (standing x.iterations s i)) n (active (Some (begun code l n))); parked = p; held = held_of (set x.held q (Some (iteration n))) })
        (put_same (λ i. wait_in (standing x.iterations s i)) n None (ap wait_in (standing_is x.iterations s n None e tt)))
        ∙ ap (λ (p : ℕ → Option Who). record M { ticket = n + 1; iterations = put_at (λ i. active (standing x.iterations s i)) n (active (Some (begun code l n))); held = p }) (held_put x.held q (Some (iteration n)) b),
  );
  order = refl;
}
  where
    n : ℕ
    n = x.shared.order.ticket

    y : Shared
    y = (ticket_up code s q l x).shared

    M : Machine
    M = machine code s x

-- ---- the rule

-- the iteration that stands in a place that is ready is parked, and has the place's number
pub ready_stands : (code : Code) (s j : ℕ) (x : Kept) → IsCore code s x → first_of x.shared.order.ready ≡ Some (1 + j) → (a : Standing) × (w : Wait) × (get_or x.iterations j None ≡ Some a) × (a.wait ≡ Some w) × (a.number % s ≡ j) × (j < s)
ready_stands code s j x c e =
    let t = first_ready x.shared.order (1 + j) e in
    let m : j < s = omega (arith, c.kernel.in_range (1 + j) (omega (arith, t)), c.slots) in
    let r = ready_reached x.shared.order (1 + j) (wait_in (get_or x.iterations j None)) c.kernel (c.each j m) t in
    by (get_or x.iterations j None) refl m r.0 r.1
  where
    by : (o : Option Standing) → get_or x.iterations j None ≡ o → j < s → (w : Wait) → wait_in (get_or x.iterations j None) ≡ Some w → (a : Standing) × (w : Wait) × (get_or x.iterations j None ≡ Some a) × (a.wait ≡ Some w) × (a.number % s ≡ j) × (j < s)
    by None f m w v = let z : None ≡ Some w = sym (ap wait_in f) ∙ v in cc
    by (Some a) f m w v = (a, w, f, sym (ap wait_in f) ∙ v, (c.numbers j a f).0, m)

pub by_rule_iteration : (code : Code) (s q j : ℕ) (x : Kept) (a : Standing) (c : Choice) (b : Point) → first_of x.shared.order.ready ≡ Some (1 + j) → get_or x.iterations j None ≡ Some a → ByRule s x.shared.order c → Picks code s c (point code s x) q b → c ≡ take_iteration a.number
by_rule_iteration code s q j x a take_main b e h r p = let z : 1 + j ≡ 0 = (let y : Some (1 + j) ≡ Some 0 = sym e ∙ r in cc) in absurd (omega (arith, z))
by_rule_iteration code s q j x a (take_iteration k) b e h r p =
    let z : 1 + j ≡ 1 + k % s = (let y : Some (1 + j) ≡ Some (1 + k % s) = sym e ∙ r in cc) in
    let t = p.takes in
    by (standing x.iterations s k) refl (omega (arith, z)) t.0 t.1
  where
    by : (o : Option Standing) → standing x.iterations s k ≡ o → j ≡ k % s → (w : Wait) → wait_in (standing x.iterations s k) ≡ Some w → take_iteration k ≡ take_iteration a.number
    by None f m w v = let z : None ≡ Some w = sym (ap wait_in f) ∙ v in cc
    by (Some d) f m w v =
        let g = standing_there x.iterations s k d f in
        let same : d ≡ a = (let z : Some d ≡ Some a = sym g.0 ∙ ap (λ (i : ℕ). get_or x.iterations i None) (sym m) ∙ h in cc) in
        ap (λ (i : ℕ). take_iteration i) (sym g.1 ∙ ap (λ (u : Standing). u.number) same)
by_rule_iteration code s q j x a take_ticket b e h r p = let z : None ≡ Some (1 + j) = sym (ap first_of r) ∙ e in cc
