-- Local instructions of what a processor holds, of activities.
use Rattle.std.proofs.Common.{◌≡◌, ◌∙◌, ℕ, zero, suc, ◌<◌, ◌≤◌, Bool, true, false, List, length, get_or, Option, Some, None, refl, sym, ap, subst, arith}
use Rattle.std.specs.Prelude.{IfSome, ◌%◌, option_map, is_some}
use Rattle.std.specs.Vec.{with_item}
use Rattle.std.proofs.Math.ListN.{set}
use Rattle.std.proofs.lemmas.Bool.{eqb-true, eq-eqb}
use Rattle.std.proofs.lemmas.List.{get_or-map}
use Rattle.machine.specs.Frame.{Frame}
use Rattle.machine.specs.FrameView as frames
use Rattle.machine.specs.Local.{and_then, local, locals}
use Rattle.machine.specs.Local.{Works as LocalWorks}
use Rattle.machine.specs.State.{Machine, Wait, Who, the_main, iteration, put_at}
use Rattle.machine.specs.declared.frame.Frame.{Frame as FrameValue}
use Rattle.machine.specs.declared.instr.Instr.{Instr}
use Rattle.activities.specs.Activities.{AreActivities, code_in, frame_at, frame_held, frame_there, kept_in, point_in, who}
use Rattle.activities.specs.Core.{IsCore, IsRunning}
use Rattle.activities.specs.Parts.{Kept, Standing, active, held_of, machine_of, point_of, standing, wait_in}
use Rattle.activities.specs.PartsView.{standing_of}
use Rattle.activities.specs.Points.{Moves, NoLocal, Point, Works, frame_in, wait_of}
use Rattle.activities.specs.Sharing.{MadeAt, WorkedAt, Working, with_frame}
use Rattle.activities.specs.declared.holding.Activities.{Activities}
use Rattle.activities.specs.declared.holding.Holder.{Holder}
use Rattle.activities.specs.declared.parts.Iteration.{Iteration}
use Rattle.activities.proofs.Choosing.{placed_machine}
use Rattle.activities.proofs.Entering.{place_below}
use Rattle.activities.proofs.Led.{led_core}
use Rattle.activities.proofs.Locals.{Stood, again, framed_at, one_only, stood_on, works_made, works_only}
use Rattle.activities.proofs.Maps.{Mine, put_same, standing_is}
use Rattle.activities.proofs.Remaining.{stays_core, still}
use Rattle.activities.proofs.Shares.{at_place, place_put, stand_from}

-- ---- where fewer can be made

stuck_after : (code : List Instr) (m n : ℕ) (f g h : Frame) → locals code m f ≡ Some g → local code g ≡ None → m < n → locals code n f ≡ Some h → ⊥
stuck_after code m zero f g h e s l d = absurd (omega (arith, l))
stuck_after code zero (suc n) f g h e s l d =
    let same : f ≡ g = cc in
    let none : local code f ≡ None = ap (λ (x : Frame). local code x) same ∙ s in
    let z : None ≡ Some h = sym (ap (λ (o : Option Frame). and_then o (λ x. locals code n x)) none) ∙ d in
    cc
stuck_after code (suc m) (suc n) f g h e s l d = by (local code f) e d (λ x a b. stuck_after code m n x g h a s (omega (arith, l)) b)
  where
    by : (o : Option Frame) → and_then o (λ x. locals code m x) ≡ Some g → and_then o (λ x. locals code n x) ≡ Some h → ((x : Frame) → locals code m x ≡ Some g → locals code n x ≡ Some h → ⊥) → ⊥
    by None a b more = cc
    by (Some x) a b more = more x a b

pub worked : (u : Who) (q n : ℕ) (b : Bool) (f g : Frame) (old new : Activities) → Stood (point_in old) q u f → Working (code_in old).instructions n b f g → point_in new ≡ framed_at u g (point_in old) → b ≡ true → Works (code_in old) old.slots n (point_in old) q (point_in new)
worked u q n b f g old new t w e h =
    let all : w.made ≡ n = eqb-true w.made n (sym w.all ∙ h) in
    subst (λ (p : Point). Works (code_in old) old.slots n (point_in old) q p) (sym e)
    (works_made (code_in old) old.slots u (point_in old) q n f g t (ap (λ (m : ℕ). locals (code_in old).instructions m f) (sym all) ∙ w.works.leads))

pub not_worked : (u : Who) (q n : ℕ) (b : Bool) (f g : Frame) (old : Activities) (p : Point) → Stood (point_in old) q u f → Working (code_in old).instructions n b f g → b ≡ false → Works (code_in old) old.slots n (point_in old) q p → ⊥
not_worked u q n b f g old p t w h d =
    let few : w.made < n = (let l = w.works.most in omega (arith, l, fewer)) in
    let r = works_only (code_in old) old.slots u (point_in old) p q n f t d in
    stuck_after (code_in old).instructions w.made n f g r.0 w.works.leads (w.works.greatest few) few r.1
  where
    fewer : w.made ≡ n → ⊥
    fewer e = let z : true ≡ false = sym (eq-eqb w.made n e) ∙ sym w.all ∙ h in cc

pub put_works : (u : Who) (q : ℕ) (f g : Frame) (old new : Activities) → Stood (point_in old) q u f → point_in new ≡ framed_at u g (point_in old) → (made : ℕ) (from : Frame) → frame_at q (point_in old) ≡ Some from → locals (code_in old).instructions made from ≡ Some g
    → Works (code_in old) old.slots made (point_in old) q (point_in new)
put_works u q f g old new t e made from a l =
    let same : from ≡ f = (let z : Some from ≡ Some f = sym a ∙ ap (λ (o : Option Who). frame_held (point_in old).machine o) t.holds ∙ t.frame in cc) in
    subst (λ (p : Point). Works (code_in old) old.slots made (point_in old) q p) (sym e)
    (works_made (code_in old) old.slots u (point_in old) q made f g t (ap (λ (x : Frame). locals (code_in old).instructions made x) (sym same) ∙ l))

pub idle_frame : (q : ℕ) (old : Activities) (from : Frame) → held_of (kept_in old).held q ≡ None → frame_at q (point_in old) ≡ Some from → ⊥
idle_frame q old from e a = let z : None ≡ Some from = sym (ap (λ (o : Option Who). frame_held (point_in old).machine o) e) ∙ a in cc

-- ---- nothing of what isn't held, or after the end

pub none_worked : (q n : ℕ) (old : Activities) (p : Point) → 1 ≤ n → held_of (kept_in old).held q ≡ None → Works (code_in old) old.slots n (point_in old) q p → ⊥
none_worked q zero old p l e w = absurd (omega (arith, l))
none_worked q (suc n) old p l e (x, m, w) = let z : None ≡ Some m.who = sym e ∙ m.holds in cc

-- ---- main

pub stood_main : (q : ℕ) (old : Activities) → AreActivities old → old.shared.ended ≡ None → held_of (kept_in old).held q ≡ Some the_main → Stood (point_in old) q the_main (kept_in old).main
stood_main q old a g h = record { holds = h; frame = refl; running = a.core.leads q h; going = g }

abbrev pub with_main_frame : FrameValue → Activities → Activities
with_main_frame f old = record old { main = record old.main { frame = f } }

pub main_stands : (f : FrameValue) (old : Activities) → AreActivities old → AreActivities (with_main_frame f old)
main_stands f old a = record {
  core = led_core (code_in old) old.slots (kept_in old) (kept_in old).shared.cells (kept_in old).shared.output (kept_in old).shared.loop (kept_in old).shared.ended (kept_in old).input (frames.frame_of f) a.core refl a.core.indices;
  processors = a.processors;
}

-- ---- an iteration

pub stood_iteration : (q k : ℕ) (old : Activities) (a : AreActivities old) → old.shared.ended ≡ None → (h : held_of (kept_in old).held q ≡ Some (iteration k)) → Stood (point_in old) q (iteration k) (a.core.runs q k h).standing.frame
stood_iteration q k old a g h =
    let r = a.core.runs q k h in
    let here : standing (kept_in old).iterations old.slots k ≡ Some r.standing = standing_is (kept_in old).iterations old.slots k (Some r.standing) r.here r.number in
    record { holds = h; frame = ap (λ (o : Option Standing). frame_in (active o)) here; running = ap wait_in here ∙ r.wait; going = g }

abbrev pub with_place : ℕ → Option Iteration → Activities → Activities
with_place at p old = record old { iterations = with_item old.iterations at p }

kept_there : (k at : ℕ) (p : Option Iteration) (b : Standing) (old : Activities) → at ≡ k % old.slots → option_map standing_of p ≡ Some b → kept_in (with_place at p old) ≡ record (kept_in old) { iterations = set (kept_in old).iterations (k % old.slots) (Some b) }
kept_there k at p b old e f = ap (λ (xs : List (Option Standing)). record (kept_in old) { iterations = xs }) (place_put old.iterations.items at (k % old.slots) p e ∙ ap (set (kept_in old).iterations (k % old.slots)) f)

pub iteration_framed : (q k at : ℕ) (p : Option Iteration) (g : Frame) (old : Activities) (a : AreActivities old) (h : held_of (kept_in old).held q ≡ Some (iteration k)) → at ≡ k % old.slots → option_map standing_of p ≡ Some (with_frame g (a.core.runs q k h).standing)
    → point_in (with_place at p old) ≡ framed_at (iteration k) g (point_in old)
iteration_framed q k at p g old a h e f =
    ap (λ (y : Kept). point_of (code_in old).variables s y) (kept_there k at p b old e f)
    ∙ ap (λ (m : Machine). record { machine = m; order = x.shared.order })
    (placed_machine (code_in old) s k x x.shared x.held (Some b) (omega (arith, place_below s k a.core.some, a.core.room)) (subst (λ (o : Option Standing). Mine k o) (sym r.here) r.number) r.number
    ∙ ap (λ (w : ℕ → Option Wait). record M { iterations = put_at (λ i. active (standing x.iterations s i)) k (active (Some b)); parked = w }) (put_same (λ i. wait_in (standing x.iterations s i)) k r.standing.wait (ap wait_in here))
    ∙ sym (ap (λ (o : Option Standing). framed_with o) here))
  where
    x : Kept
    x = kept_in old

    s : ℕ
    s = old.slots

    M : Machine
    M = machine_of (code_in old).variables s x

    r : IsRunning s k x
    r = a.core.runs q k h

    b : Standing
    b = with_frame g r.standing

    here : standing x.iterations s k ≡ Some r.standing
    here = standing_is x.iterations s k (Some r.standing) r.here r.number

    framed_with : Option Standing → Machine
    framed_with o = record M { iterations = put_at M.iterations k (again (active o) g) }

pub iteration_stands : (q k at : ℕ) (p : Option Iteration) (g : Frame) (old : Activities) (a : AreActivities old) (h : held_of (kept_in old).held q ≡ Some (iteration k)) → at ≡ k % old.slots → option_map standing_of p ≡ Some (with_frame g (a.core.runs q k h).standing) → AreActivities (with_place at p old)
iteration_stands q k at p g old a h e f =
    let r = a.core.runs q k h in
    let x = kept_in old in
    let s = old.slots in
    stand_from old (with_place at p old) a (record { code_is = refl; processors = refl; slots = refl })
    (subst (λ (y : Kept). IsCore (code_in old) s y) (sym (kept_there k at p (with_frame g r.standing) old e f))
    (stays_core (code_in old) s k x r.standing (with_frame g r.standing) x.shared a.core r.here r.number r.wait (place_below s k a.core.some) r.number r.wait (still x.shared.order a.core.kernel) refl refl))

-- what work on a place did
pub worked_there : (q k at n : ℕ) (b : Bool) (o p : Option Iteration) (old : Activities) (a : AreActivities old) (h : held_of (kept_in old).held q ≡ Some (iteration k)) → at ≡ k % old.slots → o ≡ get_or old.iterations.items at o
    → IfSome (option_map standing_of o) (λ z. WorkedAt (code_in old).instructions n b z (option_map standing_of p)) → WorkedAt (code_in old).instructions n b (a.core.runs q k h).standing (option_map standing_of p)
worked_there q k at n b o p old a h e f w = subst (λ (u : Option Standing). IfSome u (λ z. WorkedAt (code_in old).instructions n b z (option_map standing_of p))) (at_place q k at o old a h e f) w

pub put_there : (q k at : ℕ) (g : Frame) (o p : Option Iteration) (old : Activities) (a : AreActivities old) (h : held_of (kept_in old).held q ≡ Some (iteration k)) → at ≡ k % old.slots → o ≡ get_or old.iterations.items at o → option_map standing_of p ≡ option_map (with_frame g) (option_map standing_of o)
    → option_map standing_of p ≡ Some (with_frame g (a.core.runs q k h).standing)
put_there q k at g o p old a h e f w = w ∙ ap (λ (u : Option Standing). option_map (with_frame g) u) (at_place q k at o old a h e f)

-- ---- the frame of what is held

pub frame_in_place : (q k : ℕ) (old : Activities) → AreActivities old → held_of (kept_in old).held q ≡ Some (iteration k) → frame_there (get_or (kept_in old).iterations (k % old.slots) None) ≡ frame_at q (point_in old)
frame_in_place q k old a h =
    let r = a.core.runs q k h in
    let here : standing (kept_in old).iterations old.slots k ≡ Some r.standing = standing_is (kept_in old).iterations old.slots k (Some r.standing) r.here r.number in
    ap (λ (o : Option Standing). frame_there o) r.here
    ∙ sym (ap (λ (o : Option Standing). frame_in (active o)) here)
    ∙ sym (ap (λ (o : Option Who). frame_held (point_in old).machine o) h)

-- an iteration stands where its number is

pub stands_there : (k at : ℕ) (o : Option Iteration) (i : Iteration) (old : Activities) → AreActivities old → at < length old.iterations.items → o ≡ get_or old.iterations.items at o → o ≡ Some i → i.number ≡ k → at ≡ k % old.slots
stands_there k at o i old a h e f n =
    let there : get_or (kept_in old).iterations at None ≡ Some (standing_of i) =
    get_or-map (λ (z : Option Iteration). option_map standing_of z) old.iterations.items at o None h ∙ ap (λ (z : Option Iteration). option_map standing_of z) (sym e ∙ f) in
    sym ((a.core.numbers at (standing_of i) there).0) ∙ ap (λ (j : ℕ). j % old.slots) n

-- who is held has a frame, and isn't parked

held_frame : (q : ℕ) (u : Who) (old : Activities) → AreActivities old → held_of (kept_in old).held q ≡ Some u → is_some (frame_at q (point_in old)) ≡ true
held_frame q the_main old a h = ap (λ (o : Option Who). is_some (frame_held (point_in old).machine o)) h
held_frame q (iteration k) old a h = sym (ap is_some (frame_in_place q k old a h)) ∙ ap (λ (o : Option Standing). is_some (frame_there o)) (a.core.runs q k h).here

pub holds_frame : (q : ℕ) (o : Option Holder) (old : Activities) → AreActivities old → held_of (kept_in old).held q ≡ option_map who o → is_some o ≡ is_some (frame_at q (point_in old))
holds_frame q None old a h = sym (ap (λ (u : Option Who). is_some (frame_held (point_in old).machine u)) h)
holds_frame q (Some u) old a h = sym (held_frame q (who u) old a h)

pub held_runs : (q : ℕ) (u : Who) (old : Activities) → AreActivities old → held_of (kept_in old).held q ≡ Some u → wait_of (point_in old).machine u ≡ None
held_runs q the_main old a h = a.core.leads q h
held_runs q (iteration k) old a h =
    let r = a.core.runs q k h in
    let here : standing (kept_in old).iterations old.slots k ≡ Some r.standing = standing_is (kept_in old).iterations old.slots k (Some r.standing) r.here r.number in
    ap wait_in here ∙ r.wait

-- ---- as many as stand next, in place

pub made_so_many : (u : Who) (q n made : ℕ) (f g : Frame) (old new : Activities) → Stood (point_in old) q u f → LocalWorks (code_in old).instructions n f made g → point_in new ≡ framed_at u g (point_in old) → Works (code_in old) old.slots made (point_in old) q (point_in new)
made_so_many u q n made f g old new t w e = subst (λ (p : Point). Works (code_in old) old.slots made (point_in old) q p) (sym e) (works_made (code_in old) old.slots u (point_in old) q made f g t w.leads)

pub made_there : (q k at n made : ℕ) (o p : Option Iteration) (old : Activities) (a : AreActivities old) (h : held_of (kept_in old).held q ≡ Some (iteration k)) → at ≡ k % old.slots → o ≡ get_or old.iterations.items at o
    → IfSome (option_map standing_of o) (λ z. MadeAt (code_in old).instructions n made z (option_map standing_of p)) → MadeAt (code_in old).instructions n made (a.core.runs q k h).standing (option_map standing_of p)
made_there q k at n made o p old a h e f w = subst (λ (u : Option Standing). IfSome u (λ z. MadeAt (code_in old).instructions n made z (option_map standing_of p))) (at_place q k at o old a h e f) w

-- no more than those stand next
pub no_more : (u : Who) (q n made : ℕ) (f g : Frame) (old new : Activities) → Stood (point_in old) q u f → LocalWorks (code_in old).instructions n f made g → point_in new ≡ framed_at u g (point_in old) → made < n → NoLocal (code_in old) old.slots (point_in new) q
no_more u q n made f g old new t w e l b m =
    let o = one_only (code_in old) old.slots u (framed_at u g (point_in old)) b q g (stood_on u (point_in old) q f g t) (subst (λ (p : Point). Moves (code_in old) old.slots true p q b) e m) in
    let z : None ≡ Some o.0 = sym (w.greatest l) ∙ o.1 in
    cc

pub none_at_end : (q : ℕ) (old : Activities) → is_some old.shared.ended ≡ true → NoLocal (code_in old) old.slots (point_in old) q
none_at_end q old e b m = let z : false ≡ true = sym (ap is_some m.step.going) ∙ e in cc

pub none_of_none : (q : ℕ) (old : Activities) → held_of (kept_in old).held q ≡ None → NoLocal (code_in old) old.slots (point_in old) q
none_of_none q old e b m = let z : None ≡ Some m.who = sym e ∙ m.holds in cc
