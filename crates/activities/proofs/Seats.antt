-- An iteration that stands in no place yet, and its steps.
use Rattle.std.proofs.Common.{◌≡◌, ◌∙◌, ℕ, ℤ, ◌+◌, ◌-◌, ◌<◌, ◌≤◌, Bool, true, false, List, length, get_or, Option, Some, None, refl, sym, ap, subst, arith}
use Rattle.std.specs.Prelude.{Box, Vec, ◌%◌, ◌&&◌, option_map, nat_lt, ◌==◌, if◌then◌else◌}
use Rattle.std.specs.Global.{Global}
use Rattle.std.specs.Vec.{with_item}
use Rattle.std.proofs.Math.ListN.{set}
use Rattle.std.proofs.lemmas.Bool.{lt-ltb}
use Rattle.std.proofs.lemmas.List.{get_or-set_same, length-map, length-set, map-set, set-get_or, set-set}
use Rattle.ast.specs.declared.fault.End.{End}
use Rattle.ast.specs.declared.fault.End.TheVariants.{Stopped, Fault as Faulted}
use Rattle.ec_kernel.specs.View.{IsKernel, View, advanced, count_at}
use Rattle.machine.specs.Code.{Code}
use Rattle.machine.specs.Local.{going_on}
use Rattle.machine.specs.State.{Who, iteration, take_ticket, until_count}
use Rattle.machine.specs.declared.code.Open.{Open}
use Rattle.machine.specs.declared.frame.Frame.{Frame as FrameValue}
use Rattle.machine.specs.declared.next.Next.{Next}
use Rattle.machine.specs.declared.next.Next.TheVariants.{Await, Advance, Retire, Report, Stop}
use Rattle.activities.specs.Activities.{AreActivities, Stays, code_in, kept_in, point_in, who}
use Rattle.activities.specs.Core.{IsCore}
use Rattle.activities.specs.Parts.{Kept, Shared, Standing, held_of, point_of}
use Rattle.activities.specs.PartsView.{shared_of, standing_of}
use Rattle.activities.specs.Points.{Steps}
use Rattle.activities.specs.Picking.{begun}
use Rattle.activities.specs.Seating.{MayBegin, holds, placed, seat, seated}
use Rattle.activities.specs.Sharing.{StrodeAt, Turned, went, with_frame}
use Rattle.activities.specs.Turns.{After, May, ends, held_after, idle, iteration_after, leaves, parks, staying, stays, waits_its_turn}
use Rattle.activities.specs.declared.holding.Activities.{Activities}
use Rattle.activities.specs.declared.holding.Holder.{Holder}
use Rattle.activities.specs.declared.parts.Iteration.{Iteration}
use Rattle.activities.specs.declared.parts.Shared.{Shared as SharedValue}
use Rattle.activities.specs.declared.turn.Outcome.{Outcome}
use Rattle.activities.specs.declared.turn.Outcome.TheVariants as outcomes
use Rattle.activities.proofs.Entering.{may_run, place_below, runs_of}
use Rattle.activities.proofs.Gone.{strode_iteration, strode_stands, with_both}
use Rattle.activities.proofs.Picks.{TakenBy, may_take, ticket_taken, with_ticket}
use Rattle.activities.proofs.Shares.{SharedBy, holders, iteration_shared, laid_in, left, place_put, stand_from, standings}
use Rattle.activities.proofs.Strode.{made_on}
use Rattle.activities.proofs.Turning.{Runs}

-- ---- what is kept then

abbrev held_so : Outcome → ℕ → Option Who
held_so outcomes.Parks k = None
held_so outcomes.Leaves k = None
held_so _ k = Some (iteration k)

abbrev pub sits : Outcome → ℕ → ℕ → ℕ → Standing → Kept → Kept
sits o at q k a y = record y { iterations = set y.iterations at (staying o a); held = set y.held q (held_so o k) }

placed_is : (o : Outcome) (it : Iteration) → option_map standing_of (placed o it) ≡ staying o (standing_of it)
placed_is outcomes.Leaves it = refl
placed_is o it = refl

holds_is : (o : Outcome) (it : Iteration) (place : ℕ) → option_map who (holds o it place) ≡ held_so o it.number
holds_is outcomes.Parks it place = refl
holds_is outcomes.Leaves it place = refl
holds_is o it place = refl

pub kept_so : (o : Outcome) (q place : ℕ) (it : Iteration) (x : Activities) → kept_in (seat o q place it x) ≡ sits o place q it.number (standing_of it) (kept_in x)
kept_so o q place it x =
    ap (λ (xs : List (Option Standing)). record (kept_in x) { iterations = xs; held = holders (set x.held.items q (holds o it place)) })
    (place_put x.iterations.items place place (placed o it) refl ∙ ap (λ (d : Option Standing). set (kept_in x).iterations place d) (placed_is o it))
    ∙ ap (λ (hs : List (Option Who)). record (kept_in x) { iterations = set (kept_in x).iterations place (staying o (standing_of it)); held = hs })
    (map-set (λ u. option_map who u) x.held.items q (holds o it place) ∙ ap (λ (h : Option Who). set (kept_in x).held q h) (holds_is o it place))

-- ---- the iteration that is held

abbrev pub HoldsIt : ℕ → Iteration → Activities → Type 0
HoldsIt q it x = held_of (kept_in x).held q ≡ Some (iteration it.number)

set_there : (hs : List (Option Who)) (q : ℕ) (u : Who) → q < length hs → held_of (set hs q (Some u)) q ≡ Some u
unfolding held_of
set_there hs q u b = get_or-set_same hs q (Some u) None b

pub holds_it : (q place : ℕ) (it : Iteration) (x : Activities) → q < length x.held.items → HoldsIt q it (seated q place it x)
holds_it q place it x b =
    ap (λ (y : Kept). held_of y.held q) (kept_so outcomes.Stays q place it x)
    ∙ set_there (kept_in x).held q (iteration it.number) (omega (arith, b, length-map x.held.items (λ (o : Option Holder). option_map who o)))

here_it : (q place : ℕ) (it : Iteration) (x : Activities) → AreActivities (seated q place it x) → place ≡ it.number % x.slots → get_or (kept_in (seated q place it x)).iterations (it.number % x.slots) None ≡ Some (standing_of it)
here_it q place it x a e =
    let room : length (kept_in (seated q place it x)).iterations ≡ x.slots = a.core.room in
    let below : it.number % x.slots < x.slots = place_below x.slots it.number a.core.some in
    let same : length (kept_in (seated q place it x)).iterations ≡ length (kept_in x).iterations = ap (λ (y : Kept). length y.iterations) (kept_so outcomes.Stays q place it x) ∙ length-set (kept_in x).iterations place (Some (standing_of it)) in
    ap (λ (y : Kept). get_or y.iterations (it.number % x.slots) None) (kept_so outcomes.Stays q place it x)
    ∙ ap (λ (i : ℕ). get_or (set (kept_in x).iterations i (Some (standing_of it))) (it.number % x.slots) None) e
    ∙ get_or-set_same (kept_in x).iterations (it.number % x.slots) (Some (standing_of it)) None (omega (arith, room, same, below))

-- it stands there as it is
pub stands_it : (q place : ℕ) (it : Iteration) (x : Activities) (a : AreActivities (seated q place it x)) → place ≡ it.number % x.slots → (h : HoldsIt q it (seated q place it x)) → (a.core.runs q it.number h).standing ≡ standing_of it
stands_it q place it x a e h =
    let both : Some (a.core.runs q it.number h).standing ≡ Some (standing_of it) = sym (a.core.runs q it.number h).here ∙ here_it q place it x a e in
    cc

runs_it : (q place : ℕ) (it : Iteration) (x : Activities) → AreActivities (seated q place it x) → x.shared.ended ≡ None → q < length x.held.items → place ≡ it.number % x.slots
    → Runs (code_in x) x.slots q it.number (standing_of it) (kept_in (seated q place it x))
runs_it q place it x a g b e =
    let h = holds_it q place it x b in
    subst (λ (s : Standing). Runs (code_in x) x.slots q it.number s (kept_in (seated q place it x))) (stands_it q place it x a e h)
    (runs_of (code_in x) x.slots q it.number (kept_in (seated q place it x)) a.core (laid_in x.code.now) g h)

-- ---- a step that goes by the counts

number_if : (b : Bool) (y z : After) (n : ℕ) → y.standing.number ≡ n → z.standing.number ≡ n → (if b then y else z).standing.number ≡ n
number_if true y z n e f = e
number_if false y z n e f = f

number_after : (code : Code) (slot : ℕ) (n : Next) (x : Shared) (a : Standing) → (iteration_after code slot n x a).standing.number ≡ a.number
number_after code slot (Await e d) x a = number_if (nat_lt a.number (count_at x.order e + d)) (stays x (record a { frame = going_on a.frame.operands a.frame })) (parks slot e (a.number + 1 - d) (until_count e (a.number + 1 - d)) x a) a.number refl refl
number_after code slot (Advance e) x a = number_if (count_at x.order e == a.number) (stays (record x { order = advanced x.order e }) (record a { frame = going_on a.frame.operands a.frame })) (idle x a) a.number refl refl
number_after code slot (Retire n) x a = number_if (count_at x.order 0 == a.number) (leaves code n x a) (waits_its_turn slot x a) a.number refl refl
number_after code slot (Report e line) x a = number_if (count_at x.order 0 == a.number) (ends (Faulted e line) x a) (waits_its_turn slot x a) a.number refl refl
number_after code slot (Stop line) x a = number_if (count_at x.order 0 == a.number) (ends (Stopped line) x a) (waits_its_turn slot x a) a.number refl refl
number_after code slot n x a = refl

-- it has its number still, unless it has left
pub same_number : (code : Code) (slot : ℕ) (x y : Shared) (a b : Standing) (o : Outcome) → Turned code slot x a o y (staying o b) → (o ≡ outcomes.Leaves → ⊥) → b.number ≡ a.number
same_number code slot x y a b o t d = by o refl
  where
    by : (p : Outcome) → o ≡ p → b.number ≡ a.number
    by outcomes.Leaves e = absurd (d e)
    by p e =
        let z = (iteration_after code slot t.next x a).standing in
        let both : staying o b ≡ staying o z = t.standing in
        let same : Some b ≡ Some z = rw e at both in
        let is : b ≡ z = cc in
        ap (λ (s : Standing). s.number) is ∙ number_after code slot t.next x a

ended_if : (b : Bool) (y z : After) (e : Option End) → (y.outcome ≡ outcomes.Stays → y.shared.ended ≡ e) → (z.outcome ≡ outcomes.Stays → z.shared.ended ≡ e) → (if b then y else z).outcome ≡ outcomes.Stays → (if b then y else z).shared.ended ≡ e
ended_if true y z e f g = f
ended_if false y z e f g = g

ended_after : (code : Code) (slot : ℕ) (n : Next) (x : Shared) (a : Standing) → (iteration_after code slot n x a).outcome ≡ outcomes.Stays → (iteration_after code slot n x a).shared.ended ≡ x.ended
ended_after code slot (Await e d) x a = ended_if (nat_lt a.number (count_at x.order e + d)) (stays x (record a { frame = going_on a.frame.operands a.frame })) (parks slot e (a.number + 1 - d) (until_count e (a.number + 1 - d)) x a) x.ended (λ o. refl) (λ o. refl)
ended_after code slot (Advance e) x a = ended_if (count_at x.order e == a.number) (stays (record x { order = advanced x.order e }) (record a { frame = going_on a.frame.operands a.frame })) (idle x a) x.ended (λ o. refl) (λ o. refl)
ended_after code slot (Retire n) x a = ended_if (count_at x.order 0 == a.number) (leaves code n x a) (waits_its_turn slot x a) x.ended (λ o. refl) (λ o. refl)
ended_after code slot (Report e line) x a = ended_if (count_at x.order 0 == a.number) (ends (Faulted e line) x a) (waits_its_turn slot x a) x.ended (λ o. cc) (λ o. refl)
ended_after code slot (Stop line) x a = ended_if (count_at x.order 0 == a.number) (ends (Stopped line) x a) (waits_its_turn slot x a) x.ended (λ o. cc) (λ o. refl)
ended_after code slot n x a = λ o. refl

pub still_going : (code : Code) (slot : ℕ) (x y : Shared) (a : Standing) (o : Outcome) (b : Option Standing) → Turned code slot x a o y b → x.ended ≡ None → o ≡ outcomes.Stays → y.ended ≡ None
still_going code slot x y a o b t g e = ap (λ (z : Shared). z.ended) t.shared ∙ ended_after code slot t.next x a (sym t.outcome ∙ e) ∙ g

held_twice : (o : Outcome) (q k n : ℕ) (hs : List (Option Who)) → ((o ≡ outcomes.Leaves → ⊥) → n ≡ k) → held_after o q (set hs q (Some (iteration k))) ≡ set hs q (held_so o n)
held_twice outcomes.Parks q k n hs e = set-set hs q (Some (iteration k)) None
held_twice outcomes.Leaves q k n hs e = set-set hs q (Some (iteration k)) None
held_twice outcomes.Stays q k n hs e = ap (λ (j : ℕ). set hs q (Some (iteration j))) (sym (e (λ f. cc)))
held_twice outcomes.Ends q k n hs e = ap (λ (j : ℕ). set hs q (Some (iteration j))) (sym (e (λ f. cc)))
held_twice outcomes.Idle q k n hs e = ap (λ (j : ℕ). set hs q (Some (iteration j))) (sym (e (λ f. cc)))

abbrev pub with_shared : SharedValue → Activities → Activities
with_shared z x = record x { shared = z }

left_so : (q place : ℕ) (it new : Iteration) (o : Outcome) (z : SharedValue) (x : Activities) → place ≡ it.number % x.slots → ((o ≡ outcomes.Leaves → ⊥) → new.number ≡ it.number)
    → kept_in (seat o q place new (with_shared z x)) ≡ left x.slots q it.number o (shared_of z) (staying o (standing_of new)) (kept_in (seated q place it x))
left_so q place it new o z x e n =
    kept_so o q place new (with_shared z x)
    ∙ sym (
    ap (λ (y : Kept). left x.slots q it.number o (shared_of z) (staying o (standing_of new)) y) (kept_so outcomes.Stays q place it x)
    ∙ ap (λ (i : ℕ). record (kept_in x) { shared = shared_of z; iterations = set (set (kept_in x).iterations place (Some (standing_of it))) i (staying o (standing_of new)); held = held_after o q (set (kept_in x).held q (Some (iteration it.number))) }) (sym e)
    ∙ ap (λ (xs : List (Option Standing)). record (kept_in x) { shared = shared_of z; iterations = xs; held = held_after o q (set (kept_in x).held q (Some (iteration it.number))) }) (set-set (kept_in x).iterations place (Some (standing_of it)) (staying o (standing_of new)))
    ∙ ap (λ (hs : List (Option Who)). record (kept_in x) { shared = shared_of z; iterations = set (kept_in x).iterations place (staying o (standing_of new)); held = hs }) (held_twice o q it.number new.number (kept_in x).held n)
    )

abbrev pub SeatedBy : ℕ → ℕ → (made : ℕ) → Outcome → (it new : Iteration) → (x y : Activities) → Type 0
SeatedBy q place made o it new x y = Steps (code_in x) x.slots made (point_in (seated q place it x)) q (point_in (seat o q place new y)) × AreActivities (seat o q place new y)

same_sizes : (o : Outcome) (q place : ℕ) (it new : Iteration) (z : SharedValue) (x : Activities) → Stays (seated q place it x) (seat o q place new (with_shared z x))
same_sizes o q place it new z x = record {
  code_is = refl;
  processors = length-set x.held.items q (holds o new place) ∙ sym (length-set x.held.items q (holds outcomes.Stays it place));
  slots = refl;
}

pub may_it : (q place : ℕ) (it : Iteration) (x : Activities) → AreActivities (seated q place it x) → q < length x.held.items → place ≡ it.number % x.slots → May (code_in x) (place + 1) (shared_of x.shared) (standing_of it)
may_it q place it x a b e =
    let h = holds_it q place it x b in
    let slot : 1 + it.number % x.slots ≡ place + 1 = omega (arith, e) in
    subst (λ (n : ℕ). May (code_in x) n (shared_of x.shared) (standing_of it)) slot
    (subst (λ (s : Standing). May (code_in x) (1 + it.number % x.slots) (shared_of x.shared) s) (stands_it q place it x a e h) (may_run (code_in x) x.slots q it.number (kept_in (seated q place it x)) a.core h))

shared_it : (q place : ℕ) (it new : Iteration) (o : Outcome) (z : SharedValue) (x : Activities) (b : Bool) → AreActivities (seated q place it x) → x.shared.ended ≡ None → q < length x.held.items → place ≡ it.number % x.slots
    → Turned (code_in x) (place + 1) (shared_of x.shared) (standing_of it) o (shared_of z) (staying o (standing_of new)) → b ≡ went o → SharedBy q b (seated q place it x) (seat o q place new (with_shared z x))
shared_it q place it new o z x b a g l e t w =
    let slot : place + 1 ≡ 1 + it.number % x.slots = omega (arith, e) in
    let u = subst (λ (n : ℕ). Turned (code_in x) n (shared_of x.shared) (standing_of it) o (shared_of z) (staying o (standing_of new))) slot t in
    iteration_shared q it.number b (standing_of it) o (shared_of z) (staying o (standing_of new)) (seated q place it x) (seat o q place new (with_shared z x)) a (runs_it q place it x a g l e) u
    (left_so q place it new o z x e (λ d. same_number (code_in x) (1 + it.number % x.slots) (shared_of x.shared) (shared_of z) (standing_of it) (standing_of new) o u d))
    w
    (same_sizes o q place it new z x)

pub synchronized : (q place : ℕ) (it new : Iteration) (o : Outcome) (z : SharedValue) (x : Activities) → AreActivities (seated q place it x) → x.shared.ended ≡ None → q < length x.held.items → place ≡ it.number % x.slots
    → Turned (code_in x) (place + 1) (shared_of x.shared) (standing_of it) o (shared_of z) (staying o (standing_of new)) → SeatedBy q place (if went o then 1 else 0) o it new x (with_shared z x)
synchronized q place it new o z x a g l e t = by (went o) refl
  where
    by : (b : Bool) → went o ≡ b → SeatedBy q place (if b then 1 else 0) o it new x (with_shared z x)
    by true w = let s = shared_it q place it new o z x true a g l e t (sym w) in ((point_in (seat o q place new (with_shared z x)), false, s.0, refl), s.1)
    by false w = let s = shared_it q place it new o z x false a g l e t (sym w) in (sym (ap (λ (y : Kept). point_of (code_in x).variables x.slots y) s.0.0), s.1)

pub number_kept : (q place : ℕ) (it new : Iteration) (o : Outcome) (z : SharedValue) (x : Activities) → Turned (code_in x) (place + 1) (shared_of x.shared) (standing_of it) o (shared_of z) (staying o (standing_of new)) → o ≡ outcomes.Stays → new.number ≡ it.number
number_kept q place it new o z x t e = same_number (code_in x) (place + 1) (shared_of x.shared) (shared_of z) (standing_of it) (standing_of new) o t (λ f. let both : outcomes.Stays ≡ outcomes.Leaves = sym e ∙ f in cc)

-- ---- where none stands next, and strides

abbrev pub strode_as : Iteration → Vec ℤ Global → SharedValue → Activities → Activities
strode_as new v z x = with_shared (record z { cells = v }) x

strode_kept : (q place : ℕ) (it new : Iteration) (v : Vec ℤ Global) (z : SharedValue) (x : Activities) → shared_of z ≡ shared_of x.shared → new.number ≡ it.number
    → kept_in (seated q place new (strode_as new v z x)) ≡ kept_in (with_both place (Some new) v (seated q place it x))
strode_kept q place it new v z x s n =
    kept_so outcomes.Stays q place new (strode_as new v z x)
    ∙ ap (λ (y : Shared). record (kept_in x) { shared = record y { cells = v.items }; iterations = set (kept_in x).iterations place (Some (standing_of new)); held = set (kept_in x).held q (Some (iteration new.number)) }) s
    ∙ ap (λ (j : ℕ). record (kept_in x) { shared = record (kept_in x).shared { cells = v.items }; iterations = set (kept_in x).iterations place (Some (standing_of new)); held = set (kept_in x).held q (Some (iteration j)) }) n
    ∙ sym (
    ap (λ (xs : List (Option Standing)). record (kept_in (seated q place it x)) { shared = record (kept_in x).shared { cells = v.items }; iterations = xs })
    (ap (λ (ys : List (Option Iteration)). standings ys) (set-set x.iterations.items place (Some it) (Some new)) ∙ place_put x.iterations.items place place (Some new) refl)
    ∙ ap (λ (y : Kept). record y { shared = record (kept_in x).shared { cells = v.items }; iterations = set (kept_in x).iterations place (Some (standing_of new)) }) (kept_so outcomes.Stays q place it x)
    )

pub strode : (q place made : ℕ) (it new : Iteration) (v : Vec ℤ Global) (z : SharedValue) (x : Activities) → AreActivities (seated q place it x) → x.shared.ended ≡ None → q < length x.held.items → place ≡ it.number % x.slots → shared_of z ≡ shared_of x.shared
    → StrodeAt (code_in x) (kept_in x).shared.order.counts made (kept_in x).shared.cells (standing_of it) v.items (Some (standing_of new)) → length v.items ≡ length (kept_in x).shared.cells → SeatedBy q place made outcomes.Stays it new x (strode_as new v z x)
strode q place made it new v z x a g b e s w l =
    let old = seated q place it x in
    let h = holds_it q place it x b in
    let same : standing_of new ≡ with_frame w.frame (standing_of it) = (let both : Some (standing_of new) ≡ Some (with_frame w.frame (standing_of it)) = w.standing in cc) in
    let n : new.number ≡ it.number = ap (λ (y : Standing). y.number) same in
    let u = subst (λ (y : Standing). StrodeAt (code_in x) (kept_in x).shared.order.counts made (kept_in x).shared.cells y v.items (Some (standing_of new))) (sym (stands_it q place it x a e h)) w in
    let k = strode_kept q place it new v z x s n in (
      subst (λ (y : Kept). Steps (code_in x) x.slots made (point_in old) q (point_of (code_in x).variables x.slots y)) (sym k) (strode_iteration q it.number place made (Some new) v old a g h e u),
      stand_from old (seated q place new (strode_as new v z x)) a (same_sizes outcomes.Stays q place it new (record z { cells = v }) x)
          (subst (λ (y : Kept). IsCore (code_in x) x.slots y) (sym k) (strode_stands q it.number place made (Some new) v old a h e l u).core),
    )

-- ---- one after another

others_stay : (o : Outcome) (q place : ℕ) (it new : Iteration) (x y : Activities) → y ≡ record x { shared = y.shared } → Stays (seated q place it x) (seat o q place new y)
others_stay o q place it new x y e = record {
  code_is = ap (λ (a : Activities). code_in a) e;
  processors = length-set y.held.items q (holds o new place) ∙ ap (λ (a : Activities). length a.held.items) e ∙ sym (length-set x.held.items q (holds outcomes.Stays it place));
  slots = ap (λ (a : Activities). a.slots) e;
}

pub went_on : (m n q place : ℕ) (o : Outcome) (it mid new : Iteration) (x y z : Activities) → y ≡ record x { shared = y.shared } → Steps (code_in x) x.slots m (point_in (seated q place it x)) q (point_in (seated q place mid y))
    → Steps (code_in y) y.slots n (point_in (seated q place mid y)) q (point_in (seat o q place new z)) → Steps (code_in x) x.slots (m + n) (point_in (seated q place it x)) q (point_in (seat o q place new z))
went_on m n q place o it mid new x y z e g h = made_on m n q (seated q place it x) (seated q place mid y) (seat o q place new z) (others_stay outcomes.Stays q place it mid x y e) g h

-- of so many steps some were made before, and some now
pub so_many : (all left made q place : ℕ) (o : Outcome) (it mid new : Iteration) (x y z : Activities) → left ≤ all → made ≤ left → y ≡ record x { shared = y.shared } → Steps (code_in x) x.slots (all - left) (point_in (seated q place it x)) q (point_in (seated q place mid y))
    → Steps (code_in y) y.slots made (point_in (seated q place mid y)) q (point_in (seat o q place new z)) → Steps (code_in x) x.slots (all - (left - made)) (point_in (seated q place it x)) q (point_in (seat o q place new z))
so_many all left made q place o it mid new x y z few some e g h =
    let count : (all - left) + made ≡ all - (left - made) = omega (arith, few, some) in
    subst (λ (k : ℕ). Steps (code_in x) x.slots k (point_in (seated q place it x)) q (point_in (seat o q place new z))) count (went_on (all - left) made q place o it mid new x y z e g h)

pub others_on : (x y z : Activities) → y ≡ record x { shared = y.shared } → z ≡ record y { shared = z.shared } → z ≡ record x { shared = z.shared }
others_on x y z e f = f ∙ ap (λ (a : Activities). record a { shared = z.shared }) e

-- ---- it is put down

held_none : (hs : List (Option Who)) (q : ℕ) → held_of hs q ≡ None → set hs q None ≡ hs
unfolding held_of
held_none hs q e = ap (λ (o : Option Who). set hs q o) (sym e) ∙ set-get_or hs q None

pub down_left : (q place : ℕ) (it : Iteration) (x : Activities) → get_or (kept_in x).iterations place None ≡ None → held_of (kept_in x).held q ≡ None → kept_in x ≡ kept_in (seat outcomes.Leaves q place it x)
down_left q place it x e h = sym (
    kept_so outcomes.Leaves q place it x
    ∙ ap (λ (xs : List (Option Standing)). record (kept_in x) { iterations = xs; held = set (kept_in x).held q None }) (ap (λ (o : Option Standing). set (kept_in x).iterations place o) (sym e) ∙ set-get_or (kept_in x).iterations place None)
    ∙ ap (λ (hs : List (Option Who)). record (kept_in x) { held = hs }) (held_none (kept_in x).held q h)
    )

pub down_parked : (q place : ℕ) (it : Iteration) (x : Activities) → held_of (kept_in x).held q ≡ None → kept_in (record x { iterations = with_item x.iterations place (Some it) }) ≡ kept_in (seat outcomes.Parks q place it x)
down_parked q place it x h =
    ap (λ (hs : List (Option Who)). record (kept_in x) { iterations = standings (set x.iterations.items place (Some it)); held = hs })
    (sym (map-set (λ u. option_map who u) x.held.items q None ∙ held_none (kept_in x).held q h))

-- ---- its ticket

takes : (old : Activities) (l : Open) → MayBegin old l → may_take l old ≡ true
takes old l m =
    ap (λ b. b && nat_lt old.shared.kernel.ticket (count_at old.shared.kernel 0 + old.slots)) (lt-ltb old.shared.kernel.ticket l.trips m.few)
    ∙ lt-ltb old.shared.kernel.ticket (count_at old.shared.kernel 0 + old.slots) m.near

abbrev pub with_ticket_drawn : View → Vec (Box FrameValue Global) Global → Activities → Activities
with_ticket_drawn z spare x = with_shared (record x.shared { kernel = z; spare = spare }) x

pub taken_seated : (q place k next : ℕ) (l : Open) (z : View) (spare : Vec (Box FrameValue Global) Global) (it : Iteration) (old : Activities) → AreActivities old → held_of (kept_in old).held q ≡ None → q < length old.held.items → MayBegin old l
    → next ≡ old.shared.kernel.ticket → k ≡ old.shared.kernel.ticket → place ≡ k % old.slots → z ≡ record old.shared.kernel { ticket = old.shared.kernel.ticket + 1 } → standing_of it ≡ begun (code_in old) l next → IsKernel z
    → TakenBy take_ticket q old (seated q place it (with_ticket_drawn z spare old))
taken_seated q place k next l z spare it old a i b may n e p zi s kept =
    let y : SharedValue = record old.shared { kernel = z; spare = spare } in
    let number : it.number ≡ k = ap (λ (x : Standing). x.number) s ∙ n ∙ sym e in
    subst (λ (j : ℕ). TakenBy take_ticket q old (with_ticket q j place y it old)) (sym number)
    (ticket_taken q k place l z y it old a may.going i b may.loop (takes old l may) may.ticket e p zi refl (s ∙ ap (λ (j : ℕ). begun (code_in old) l j) n) kept)
