-- What was taken up, of activities.
use Rattle.std.proofs.Common.{◌≡◌, ◌∙◌, ℕ, ◌+◌, ◌-◌, ◌<◌, ◌^◌, Bool, true, false, List, length, get_or, Option, Some, None, refl, sym, ap, subst, arith}
use Rattle.std.specs.Prelude.{◌%◌, option_map, ◌&&◌, nat_lt}
use Rattle.std.specs.Vec.{with_item}
use Rattle.std.proofs.Math.ListN.{set}
use Rattle.std.proofs.lemmas.Bool.{and_parts, ltb-true}
use Rattle.std.proofs.lemmas.List.{get_or-map, length-map, length-set, map-set}
use Rattle.ec_kernel.specs.View.{View, IsKernel, count_at, first_of, times}
use Rattle.machine.specs.State.{Choice, take_main, take_iteration, take_ticket, Wait, Who, iteration}
use Rattle.machine.specs.declared.code.Open.{Open}
use Rattle.activities.specs.Activities.{AreActivities, Stays, code_in, kept_in, point_in, who}
use Rattle.activities.specs.Core.{IsCore}
use Rattle.activities.specs.Parts as plain
use Rattle.activities.specs.Parts.{Kept, Standing, held_of, numbered, point_of, standing, wait_in}
use Rattle.activities.specs.PartsView.{shared_of, standing_of}
use Rattle.activities.specs.Picking.{begun, is_due, iteration_up, main_up, no_longer_ready, ticket_up, unparked}
use Rattle.activities.specs.Points.{ByRule, Picks, Point}
use Rattle.activities.specs.Waiting.{Stands}
use Rattle.activities.specs.declared.holding.Activities.{Activities}
use Rattle.activities.specs.declared.holding.Holder.{Holder}
use Rattle.activities.specs.declared.holding.Holder.TheVariants as holder
use Rattle.activities.specs.declared.parts.Iteration.{Iteration}
use Rattle.activities.specs.declared.parts.Shared.{Shared}
use Rattle.activities.proofs.Choosing.{by_rule_iteration, iteration_not_picked, iteration_picked, main_picked, ready_stands, ticket_picked}
use Rattle.activities.proofs.Entering.{place_below}
use Rattle.activities.proofs.Maps.{standing_there}
use Rattle.activities.proofs.Shares.{holders, place_in, place_put, same_point, stand_from, standings}
use Rattle.activities.proofs.Taken.{due_ready, iteration_up_core, main_up_core, place_free, ticket_up_core}

abbrev pub TakenBy : Choice → ℕ → Activities → Activities → Type 0
TakenBy c q old new = Picks (code_in old) old.slots c (point_in old) q (point_in new) × AreActivities new

taken_by : (c : Choice) (q : ℕ) (old new : Activities) (x : Kept) → AreActivities old → Stays old new → kept_in new ≡ x → Picks (code_in old) old.slots c (point_in old) q (point_of (code_in old).variables old.slots x) → IsCore (code_in old) old.slots x → TakenBy c q old new
taken_by c q old new x a t e p k = (
  subst (λ (z : Point). Picks (code_in old) old.slots c (point_in old) q z) (sym (same_point old new t ∙ ap (λ (y : Kept). point_of (code_in old).variables old.slots y) e)) p,
  stand_from old new a t (subst (λ (z : Kept). IsCore (code_in old) old.slots z) (sym e) k),
)

within : (q : ℕ) (old : Activities) → q < length old.held.items → q < length (kept_in old).held
within q old l = omega (arith, l, length-map old.held.items (λ (o : Option Holder). option_map who o))

held_put : (hs : List (Option Holder)) (q : ℕ) (h : Holder) → holders (set hs q (Some h)) ≡ set (holders hs) q (Some (who h))
held_put hs q h = map-set (λ o. option_map who o) hs q (Some h)

-- ---- main

abbrev pub with_main : ℕ → View → Activities → Activities
with_main q z old = record old { shared = record old.shared { kernel = z }; main = record old.main { wait = None }; held = with_item old.held q (Some holder.Main) }

pub main_taken : (q : ℕ) (z : View) (old : Activities) → AreActivities old → old.shared.ended ≡ None → held_of (kept_in old).held q ≡ None → q < length old.held.items → is_due old.shared.kernel (kept_in old).waiting ≡ true → z ≡ no_longer_ready 0 old.shared.kernel → IsKernel z
    → TakenBy take_main q old (with_main q z old)
main_taken q z old a g i l d e k = by (kept_in old).waiting refl d
  where
    x : Kept
    x = kept_in old

    is : kept_in (with_main q z old) ≡ main_up q x
    is =
        ap (λ (y : View). record x { shared = record x.shared { order = y }; waiting = None; held = holders (set old.held.items q (Some holder.Main)) }) e
        ∙ ap (λ (hs : List (Option Who)). record x { shared = record x.shared { order = no_longer_ready 0 old.shared.kernel }; waiting = None; held = hs }) (held_put old.held.items q holder.Main)

    by : (w : Option Wait) → x.waiting ≡ w → is_due old.shared.kernel w ≡ true → TakenBy take_main q old (with_main q z old)
    by None f h = cc
    by (Some w) f h =
        taken_by take_main q old (with_main q z old) (main_up q x) a (record { code_is = refl; processors = length-set old.held.items q (Some holder.Main); slots = refl }) is
        (main_picked (code_in old) old.slots q w x a.core g i (within q old l) f h)
        (main_up_core (code_in old) old.slots q w x a.core f (due_ready old.shared.kernel 0 w (subst (λ (o : Option Wait). Stands old.shared.kernel 0 o) f a.core.main) h) (within q old l) (subst (λ (y : View). IsKernel y) e k))

-- ---- an iteration

pub place_view : (k at : ℕ) (z : Option Iteration) (old : Activities) → AreActivities old → at ≡ k % old.slots → z ≡ get_or old.iterations.items at z → option_map standing_of z ≡ get_or (kept_in old).iterations (k % old.slots) None
place_view k at z old a e f =
    ap (λ o. option_map standing_of o) f
    ∙ sym (get_or-map (λ o. option_map standing_of o) old.iterations.items at z None (place_in k at old a e))
    ∙ ap (λ (i : ℕ). get_or (standings old.iterations.items) i None) e

pub place_stands : (k at : ℕ) (z : Option Iteration) (old : Activities) → AreActivities old → at ≡ k % old.slots → z ≡ get_or old.iterations.items at z → Stands old.shared.kernel (at + 1) (wait_in (option_map standing_of z))
place_stands k at z old a e f =
    let n : 1 + k % old.slots ≡ at + 1 = omega (arith, e) in
    subst (λ (o : Option Standing). Stands old.shared.kernel (at + 1) (wait_in o)) (sym (place_view k at z old a e f))
    (subst (λ (i : ℕ). Stands old.shared.kernel i (wait_in (get_or (kept_in old).iterations (k % old.slots) None))) n (a.core.each (k % old.slots) (place_below old.slots k a.core.some)))

numbered_is : (xs : List (Option Standing)) (s k : ℕ) → standing xs s k ≡ numbered k (get_or xs (k % s) None)
unfolding standing
numbered_is xs s k = refl

pub due_there : (k at : ℕ) (z : Option Iteration) (b : Bool) (old : Activities) → AreActivities old → at ≡ k % old.slots → z ≡ get_or old.iterations.items at z → b ≡ is_due old.shared.kernel (wait_in (numbered k (option_map standing_of z))) → is_due old.shared.kernel (wait_in (standing (kept_in old).iterations old.slots k)) ≡ b
due_there k at z b old a e f d =
    ap (λ (o : Option Standing). is_due old.shared.kernel (wait_in o)) (numbered_is (kept_in old).iterations old.slots k ∙ ap (numbered k) (sym (place_view k at z old a e f))) ∙ sym d

pub iteration_untaken : (q k at : ℕ) (z : Option Iteration) (b : Bool) (old : Activities) (p : Point) → AreActivities old → at ≡ k % old.slots → z ≡ get_or old.iterations.items at z → b ≡ is_due old.shared.kernel (wait_in (numbered k (option_map standing_of z))) → b ≡ false
    → Picks (code_in old) old.slots (take_iteration k) (point_in old) q p → ⊥
iteration_untaken q k at z b old p a e f d n h = iteration_not_picked (code_in old) old.slots q k (kept_in old) p a.core (place_below old.slots k a.core.some) (due_there k at z b old a e f d ∙ n) h

abbrev pub with_iteration : ℕ → ℕ → ℕ → View → Option Iteration → Activities → Activities
with_iteration q k at z p old = record old { shared = record old.shared { kernel = z }; iterations = with_item old.iterations at p; held = with_item old.held q (Some (holder.Iteration k at)) }

pub iteration_taken : (q k at : ℕ) (z : View) (o p : Option Iteration) (b : Bool) (old : Activities) → AreActivities old → old.shared.ended ≡ None → held_of (kept_in old).held q ≡ None → q < length old.held.items → at ≡ k % old.slots → o ≡ get_or old.iterations.items at o
    → b ≡ is_due old.shared.kernel (wait_in (numbered k (option_map standing_of o))) → b ≡ true → z ≡ no_longer_ready (at + 1) old.shared.kernel → option_map standing_of p ≡ option_map unparked (option_map standing_of o) → IsKernel z
    → TakenBy (take_iteration k) q old (with_iteration q k at z p old)
iteration_taken q k at z o p b old a g i l e f d n zi pi ki = by (standing (kept_in old).iterations old.slots k) refl (due_there k at o b old a e f d ∙ n)
  where
    x : Kept
    x = kept_in old

    s : ℕ
    s = old.slots

    new : Activities
    new = with_iteration q k at z p old

    order : z ≡ no_longer_ready (1 + k % s) old.shared.kernel
    order = let m : at + 1 ≡ 1 + k % s = omega (arith, e) in zi ∙ ap (λ (j : ℕ). no_longer_ready j old.shared.kernel) m

    by : (u : Option Standing) → standing x.iterations s k ≡ u → is_due old.shared.kernel (wait_in u) ≡ true → TakenBy (take_iteration k) q old new
    by None h c = cc
    by (Some u) h c = parked u.wait refl c
      where
        there : (get_or x.iterations (k % s) None ≡ Some u) × (u.number ≡ k)
        there = standing_there x.iterations s k u h

        is : kept_in new ≡ iteration_up q (k % s) u x
        is =
            ap (λ (y : View). record x { shared = record x.shared { order = y }; iterations = standings (set old.iterations.items at p); held = holders (set old.held.items q (Some (holder.Iteration k at))) }) order
            ∙ ap (λ (ys : List (Option Standing)). record x { shared = record x.shared { order = no_longer_ready (1 + k % s) old.shared.kernel }; iterations = ys; held = holders (set old.held.items q (Some (holder.Iteration k at))) })
            (place_put old.iterations.items at (k % s) p e ∙ ap (set x.iterations (k % s)) (pi ∙ ap (λ (w : Option Standing). option_map unparked w) (place_view k at o old a e f ∙ there.0)))
            ∙ ap (λ (hs : List (Option Who)). record x { shared = record x.shared { order = no_longer_ready (1 + k % s) old.shared.kernel }; iterations = set x.iterations (k % s) (Some (unparked u)); held = hs })
            (held_put old.held.items q (holder.Iteration k at) ∙ ap (λ (j : ℕ). set x.held q (Some (iteration j))) (sym there.1))

        parked : (w : Option Wait) → u.wait ≡ w → is_due old.shared.kernel w ≡ true → TakenBy (take_iteration k) q old new
        parked None v c2 = cc
        parked (Some w) v c2 =
            let m : k % s < s = place_below s k a.core.some in
            let stands : Stands old.shared.kernel (1 + k % s) (Some w) = subst (λ (y : Option Wait). Stands old.shared.kernel (1 + k % s) y) (ap wait_in there.0 ∙ v) (a.core.each (k % s) m) in
            taken_by (take_iteration k) q old new (iteration_up q (k % s) u x) a (record { code_is = refl; processors = length-set old.held.items q (Some (holder.Iteration k at)); slots = refl }) is
            (iteration_picked (code_in old) s q k w u x a.core g i (within q old l) m there.0 there.1 v c2)
            (core w v m (due_ready old.shared.kernel (1 + k % s) w stands c2))
          where
            core : (w : Wait) → u.wait ≡ Some w → k % s < s → 0 < times (1 + k % s) old.shared.kernel.ready → IsCore (code_in old) s (iteration_up q (k % s) u x)
            core w v m t = subst (λ (j : ℕ). IsCore (code_in old) s (iteration_up q (j % s) u x)) there.1
                (iteration_up_core (code_in old) s q w u x a.core (by_number there.0) v (number_below m) (number_times t) (within q old l) (number_kernel (subst (λ (y : View). IsKernel y) order ki)))
              where
                back : k ≡ u.number
                back = sym there.1

                by_number : get_or x.iterations (k % s) None ≡ Some u → get_or x.iterations (u.number % s) None ≡ Some u
                by_number y = subst (λ (j : ℕ). get_or x.iterations (j % s) None ≡ Some u) back y

                number_below : k % s < s → u.number % s < s
                number_below y = subst (λ (j : ℕ). j % s < s) back y

                number_times : 0 < times (1 + k % s) old.shared.kernel.ready → 0 < times (1 + u.number % s) old.shared.kernel.ready
                number_times y = subst (λ (j : ℕ). 0 < times (1 + j % s) old.shared.kernel.ready) back y

                number_kernel : IsKernel (no_longer_ready (1 + k % s) old.shared.kernel) → IsKernel (no_longer_ready (1 + u.number % s) old.shared.kernel)
                number_kernel y = subst (λ (j : ℕ). IsKernel (no_longer_ready (1 + j % s) old.shared.kernel)) back y

-- ---- a ticket

abbrev pub may_take : Open → Activities → Bool
may_take l old = nat_lt old.shared.kernel.ticket l.trips && nat_lt old.shared.kernel.ticket (count_at old.shared.kernel 0 + old.slots)

-- what is shared is changed too: the ticket, and the frames that no iteration has
abbrev pub with_ticket : ℕ → ℕ → ℕ → Shared → Iteration → Activities → Activities
with_ticket q k at y it old = record old { shared = y; iterations = with_item old.iterations at (Some it); held = with_item old.held q (Some (holder.Iteration k at)) }

pub ticket_taken : (q k at : ℕ) (l : Open) (z : View) (y : Shared) (it : Iteration) (old : Activities) → AreActivities old → old.shared.ended ≡ None → held_of (kept_in old).held q ≡ None → q < length old.held.items → old.shared.open ≡ Some l → may_take l old ≡ true → old.shared.kernel.ticket < 2 ^ 128 - 1
    → k ≡ old.shared.kernel.ticket → at ≡ k % old.slots → z ≡ record old.shared.kernel { ticket = old.shared.kernel.ticket + 1 } → shared_of y ≡ record (shared_of old.shared) { order = z } → standing_of it ≡ begun (code_in old) l old.shared.kernel.ticket → IsKernel z
    → TakenBy take_ticket q old (with_ticket q k at y it old)
ticket_taken q k at l z y it old a g i b o m r ki e zi yi si kk =
    taken_by take_ticket q old new (ticket_up (code_in old) s q l x) a (record { code_is = refl; processors = length-set old.held.items q (Some (holder.Iteration k at)); slots = refl }) is
    (ticket_picked (code_in old) s q l x a.core g i (within q old b) below free o t u)
    (ticket_up_core (code_in old) s q l x a.core free below (omega (arith, r)) (within q old b) (subst (λ (y : View). IsKernel y) zi kk))
  where
    x : Kept
    x = kept_in old

    s : ℕ
    s = old.slots

    n : ℕ
    n = old.shared.kernel.ticket

    new : Activities
    new = with_ticket q k at y it old

    t : n < l.trips
    t = ltb-true n l.trips (and_parts (nat_lt n l.trips) (nat_lt n (count_at old.shared.kernel 0 + s)) m).0

    u : n < count_at old.shared.kernel 0 + s
    u = ltb-true n (count_at old.shared.kernel 0 + s) (and_parts (nat_lt n l.trips) (nat_lt n (count_at old.shared.kernel 0 + s)) m).1

    free : get_or x.iterations (n % s) None ≡ None
    free = place_free (code_in old) s x a.core u

    below : n % s < s
    below = place_below s n a.core.some

    is : kept_in new ≡ ticket_up (code_in old) s q l x
    is =
        ap (λ (w : plain.Shared). record x { shared = w; iterations = standings (set old.iterations.items at (Some it)); held = holders (set old.held.items q (Some (holder.Iteration k at))) }) yi
        ∙ ap (λ (y : View). record x { shared = record x.shared { order = y }; iterations = standings (set old.iterations.items at (Some it)); held = holders (set old.held.items q (Some (holder.Iteration k at))) }) zi
        ∙ ap (λ (ys : List (Option Standing)). record x { shared = record x.shared { order = record old.shared.kernel { ticket = n + 1 } }; iterations = ys; held = holders (set old.held.items q (Some (holder.Iteration k at))) })
        (place_put old.iterations.items at (n % s) (Some it) (e ∙ ap (λ (j : ℕ). j % s) ki) ∙ ap (λ (y : Standing). set x.iterations (n % s) (Some y)) si)
        ∙ ap (λ (hs : List (Option Who)). record x { shared = record x.shared { order = record old.shared.kernel { ticket = n + 1 } }; iterations = set x.iterations (n % s) (Some (begun (code_in old) l n)); held = hs })
        (held_put old.held.items q (holder.Iteration k at) ∙ ap (λ (j : ℕ). set x.held q (Some (iteration j))) ki)

-- ---- the rule

one_before : (slot : ℕ) → (slot ≡ 0 → ⊥) → 1 + (slot - 1) ≡ slot
one_before slot d = omega (arith, d)

first_at : (old : Activities) (slot : ℕ) → first_of old.shared.kernel.ready ≡ Some slot → (slot ≡ 0 → ⊥) → first_of old.shared.kernel.ready ≡ Some (1 + (slot - 1))
first_at old slot e d = e ∙ ap (λ (n : ℕ). Some n) (sym (one_before slot d))

pub chosen_below : (old : Activities) (slot : ℕ) → AreActivities old → first_of old.shared.kernel.ready ≡ Some slot → (slot ≡ 0 → ⊥) → slot - 1 < length old.iterations.items
chosen_below old slot a e d =
    let r = ready_stands (code_in old) old.slots (slot - 1) (kept_in old) a.core (first_at old slot e d) in
    omega (arith, r.5, a.core.room, length-map old.iterations.items (λ (o : Option Iteration). option_map standing_of o))

pub chosen_rule : (old : Activities) (slot n : ℕ) → AreActivities old → first_of old.shared.kernel.ready ≡ Some slot → (slot ≡ 0 → ⊥) → ((b : Standing) → get_or (kept_in old).iterations (slot - 1) None ≡ Some b → n ≡ b.number) → first_of old.shared.kernel.ready ≡ Some (1 + n % old.slots)
chosen_rule old slot n a e d f =
    let r = ready_stands (code_in old) old.slots (slot - 1) (kept_in old) a.core (first_at old slot e d) in
    first_at old slot e d ∙ ap (λ (m : ℕ). Some (1 + m)) (sym r.4 ∙ ap (λ (m : ℕ). m % old.slots) (sym (f r.0 r.2)))

pub chosen_only : (old : Activities) (slot n : ℕ) (c : Choice) (q : ℕ) (b : Point) → AreActivities old → first_of old.shared.kernel.ready ≡ Some slot → (slot ≡ 0 → ⊥) → ((b : Standing) → get_or (kept_in old).iterations (slot - 1) None ≡ Some b → n ≡ b.number)
    → ByRule old.slots old.shared.kernel c → Picks (code_in old) old.slots c (point_in old) q b → c ≡ take_iteration n
chosen_only old slot n c q b a e d f h p =
    let r = ready_stands (code_in old) old.slots (slot - 1) (kept_in old) a.core (first_at old slot e d) in
    by_rule_iteration (code_in old) old.slots q (slot - 1) (kept_in old) r.0 c b (first_at old slot e d) r.2 h p
    ∙ ap (λ (m : ℕ). take_iteration m) (sym (f r.0 r.2))

-- ---- whether a processor may take something up
