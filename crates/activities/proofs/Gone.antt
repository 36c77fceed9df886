-- Activities of which one has another frame, and the store other values.
use Rattle.std.proofs.Common.{◌≡◌, ◌∙◌, ℕ, ◌+◌, ◌<◌, true, false, ℤ, List, length, get_or, Option, Some, None, refl, sym, ap, subst, arith}
use Rattle.std.specs.Prelude.{IfSome, Vec, ◌%◌, option_map}
use Rattle.std.specs.Global.{Global}
use Rattle.std.specs.Vec.{with_item}
use Rattle.std.proofs.Math.ListN.{set}
use Rattle.std.proofs.lemmas.Bool.{ltb-true}
use Rattle.machine.specs.Frame.{Frame}
use Rattle.machine.specs.FrameView as frames
use Rattle.machine.specs.declared.frame.Frame.{Frame as FrameValue}
use Rattle.machine.specs.State.{Machine, Wait, the_main, iteration, put_at}
use Rattle.activities.specs.Activities.{AreActivities, code_in, kept_in, point_in}
use Rattle.activities.specs.Core.{IsCore, IsRunning}
use Rattle.activities.specs.Parts.{Kept, Shared, Standing, active, counts_of, held_of, machine_of, point_of, standing, wait_in}
use Rattle.activities.specs.PartsView.{standing_of}
use Rattle.activities.specs.Points.{Point, Steps}
use Rattle.activities.specs.Sharing.{StrodeAt, with_frame}
use Rattle.activities.specs.Along.{GoesAlong}
use Rattle.activities.specs.Kinds.{Makes, kinds}
use Rattle.activities.proofs.Pathways.{along}
use Rattle.activities.specs.Told.{is_told}
use Rattle.activities.specs.declared.holding.Activities.{Activities}
use Rattle.activities.specs.declared.parts.Iteration.{Iteration}
use Rattle.activities.proofs.Choosing.{placed_machine}
use Rattle.activities.proofs.Entering.{place_below}
use Rattle.activities.proofs.Labour.{stood_iteration, stood_main}
use Rattle.activities.proofs.Led.{led_core}
use Rattle.activities.proofs.Locals.{again}
use Rattle.activities.proofs.Maps.{Mine, put_same, standing_is}
use Rattle.activities.proofs.Remaining.{stays_core, still}
use Rattle.activities.proofs.Shares.{at_place, place_put, stand_from}
use Rattle.machine.specs.StoreView.{store_of}
use Rattle.machine.specs.Strides.{Held, strides_past}
use Rattle.activities.proofs.Strode.{gone_at, strides_made}

-- what is shared, with other cells
abbrev pub with_cells : List ℤ → Shared → Shared
with_cells cs y = record y { cells = cs }

-- what is kept of iteration k with another frame, and other cells
abbrev pub kept_gone : ℕ → ℕ → List ℤ → Standing → Kept → Kept
kept_gone s k cs b x = record x { shared = with_cells cs x.shared; iterations = set x.iterations (k % s) (Some b) }

iteration_gone : (q k : ℕ) (cs : List ℤ) (g : Frame) (old : Activities) (a : AreActivities old) (h : held_of (kept_in old).held q ≡ Some (iteration k))
    → point_of (code_in old).variables old.slots (kept_gone old.slots k cs (with_frame g (a.core.runs q k h).standing) (kept_in old)) ≡ gone_at (iteration k) (record { frame = g; store = store_of (code_in old).variables cs }) (point_in old)
iteration_gone q k cs g old a h =
    ap (λ (m : Machine). record { machine = m; order = x.shared.order })
    (placed_machine (code_in old) s k x y x.held (Some b) (omega (arith, place_below s k a.core.some, a.core.room)) (subst (λ (o : Option Standing). Mine k o) (sym r.here) r.number) r.number
    ∙ ap (λ (w : ℕ → Option Wait). record M { iterations = put_at (λ i. active (standing x.iterations s i)) k (active (Some b)); parked = w }) (put_same (λ i. wait_in (standing x.iterations s i)) k r.standing.wait (ap wait_in here))
    ∙ sym (ap (λ (o : Option Standing). framed_with o) here))
  where
    x : Kept
    x = kept_in old

    s : ℕ
    s = old.slots

    y : Shared
    y = with_cells cs x.shared

    M : Machine
    M = machine_of (code_in old).variables s (record x { shared = y })

    r : IsRunning s k x
    r = a.core.runs q k h

    b : Standing
    b = with_frame g r.standing

    here : standing x.iterations s k ≡ Some r.standing
    here = standing_is x.iterations s k (Some r.standing) r.here r.number

    framed_with : Option Standing → Machine
    framed_with o = record M { iterations = put_at M.iterations k (again (active o) g) }

gone_core : (q k : ℕ) (cs : List ℤ) (g : Frame) (old : Activities) (a : AreActivities old) (h : held_of (kept_in old).held q ≡ Some (iteration k)) → length cs ≡ length (kept_in old).shared.cells
    → IsCore (code_in old) old.slots (kept_gone old.slots k cs (with_frame g (a.core.runs q k h).standing) (kept_in old))
gone_core q k cs g old a h l =
    let r = a.core.runs q k h in
    let x = kept_in old in
    stays_core (code_in old) old.slots k x r.standing (with_frame g r.standing) (with_cells cs x.shared) a.core r.here r.number r.wait (place_below old.slots k a.core.some) r.number r.wait (still x.shared.order a.core.kernel) l refl

-- ---- an iteration

pub there : (q k at made : ℕ) (o p : Option Iteration) (cs : List ℤ) (old : Activities) (a : AreActivities old) (h : held_of (kept_in old).held q ≡ Some (iteration k)) → at ≡ k % old.slots → o ≡ get_or old.iterations.items at o
    → IfSome (option_map standing_of o) (λ z. StrodeAt (code_in old) (kept_in old).shared.order.counts made (kept_in old).shared.cells z cs (option_map standing_of p)) → StrodeAt (code_in old) (kept_in old).shared.order.counts made (kept_in old).shared.cells (a.core.runs q k h).standing cs (option_map standing_of p)
there q k at made o p cs old a h e f w = subst (λ (u : Option Standing). IfSome u (λ z. StrodeAt (code_in old) (kept_in old).shared.order.counts made (kept_in old).shared.cells z cs (option_map standing_of p))) (at_place q k at o old a h e f) w

abbrev pub with_both : ℕ → Option Iteration → Vec ℤ Global → Activities → Activities
with_both at p v old = record old { shared = record old.shared { cells = v }; iterations = with_item old.iterations at p }

kept_there : (k at : ℕ) (p : Option Iteration) (b : Standing) (v : Vec ℤ Global) (old : Activities) → at ≡ k % old.slots → option_map standing_of p ≡ Some b → kept_in (with_both at p v old) ≡ kept_gone old.slots k v.items b (kept_in old)
kept_there k at p b v old e f =
    ap (λ (xs : List (Option Standing)). record (kept_in old) { shared = with_cells v.items (kept_in old).shared; iterations = xs })
    (place_put old.iterations.items at (k % old.slots) p e ∙ ap (λ (o : Option Standing). set (kept_in old).iterations (k % old.slots) o) f)

pub strode_iteration : (q k at made : ℕ) (p : Option Iteration) (v : Vec ℤ Global) (old : Activities) (a : AreActivities old) → old.shared.ended ≡ None → (h : held_of (kept_in old).held q ≡ Some (iteration k)) → at ≡ k % old.slots
    → StrodeAt (code_in old) (kept_in old).shared.order.counts made (kept_in old).shared.cells (a.core.runs q k h).standing v.items (option_map standing_of p) → Steps (code_in old) old.slots made (point_in old) q (point_in (with_both at p v old))
strode_iteration q k at made p v old a g h e w =
    let s : Standing = (a.core.runs q k h).standing in
    let b : Held = record { frame = w.frame; store = store_of (code_in old).variables v.items } in
    let there : point_in (with_both at p v old) ≡ gone_at (iteration k) b (point_in old) =
    ap (λ (y : Kept). point_of (code_in old).variables old.slots y) (kept_there k at p (with_frame w.frame (a.core.runs q k h).standing) v old e w.standing) ∙ iteration_gone q k v.items w.frame old a h in
    subst (λ (z : Point). Steps (code_in old) old.slots made (point_in old) q z) (sym there)
    (strides_made (is_told (kept_in old).shared.order.counts s.number) (code_in old) old.slots (iteration k) (point_in old) q made s.frame b
    (λ e d t. subst (λ (n : ℕ). n < counts_of (kept_in old).shared.order.counts e + d) (a.core.runs q k h).number (ltb-true s.number (counts_of (kept_in old).shared.order.counts e + d) t)) (stood_iteration q k old a g h) w.leads)

-- where the code tells their kinds, they are of those
pub along_iteration : (q k at made : ℕ) (p : Option Iteration) (v : Vec ℤ Global) (old : Activities) (a : AreActivities old) → old.shared.ended ≡ None → (h : held_of (kept_in old).held q ≡ Some (iteration k)) → at ≡ k % old.slots
    → StrodeAt (code_in old) (kept_in old).shared.order.counts made (kept_in old).shared.cells (a.core.runs q k h).standing v.items (option_map standing_of p) → GoesAlong old q made (with_both at p v old)
along_iteration q k at made p v old a g h e w f here path =
    let s : Standing = (a.core.runs q k h).standing in
    let b : Held = record { frame = w.frame; store = store_of (code_in old).variables v.items } in
    let there : point_in (with_both at p v old) ≡ gone_at (iteration k) b (point_in old) =
    ap (λ (y : Kept). point_of (code_in old).variables old.slots y) (kept_there k at p (with_frame w.frame (a.core.runs q k h).standing) v old e w.standing) ∙ iteration_gone q k v.items w.frame old a h in
    subst (λ (z : Point). Makes (code_in old) old.slots (kinds (code_in old).instructions made f.place) (point_in old) q z) (sym there)
    (along (is_told (kept_in old).shared.order.counts s.number) (code_in old) old.slots (iteration k) (point_in old) q made s.frame b
    (λ n d t. subst (λ (i : ℕ). i < counts_of (kept_in old).shared.order.counts n + d) (a.core.runs q k h).number (ltb-true s.number (counts_of (kept_in old).shared.order.counts n + d) t)) (stood_iteration q k old a g h) w.leads f here path)

pub strode_stands : (q k at made : ℕ) (p : Option Iteration) (v : Vec ℤ Global) (old : Activities) (a : AreActivities old) (h : held_of (kept_in old).held q ≡ Some (iteration k)) → at ≡ k % old.slots → length v.items ≡ length (kept_in old).shared.cells
    → StrodeAt (code_in old) (kept_in old).shared.order.counts made (kept_in old).shared.cells (a.core.runs q k h).standing v.items (option_map standing_of p) → AreActivities (with_both at p v old)
strode_stands q k at made p v old a h e l w =
    stand_from old (with_both at p v old) a (record { code_is = refl; processors = refl; slots = refl })
    (subst (λ (y : Kept). IsCore (code_in old) old.slots y) (sym (kept_there k at p (with_frame w.frame (a.core.runs q k h).standing) v old e w.standing)) (gone_core q k v.items w.frame old a h l))

-- ---- main

abbrev pub with_main_both : FrameValue → Vec ℤ Global → Activities → Activities
with_main_both f v old = record old { shared = record old.shared { cells = v }; main = record old.main { frame = f } }

pub strode_main : (q made : ℕ) (f : FrameValue) (v : Vec ℤ Global) (old : Activities) → AreActivities old → old.shared.ended ≡ None → held_of (kept_in old).held q ≡ Some the_main
    → strides_past (λ _ _. false) (code_in old) made (record { frame = frames.frame_of old.main.frame; store = store_of (code_in old).variables (kept_in old).shared.cells }) ≡ Some (record { frame = frames.frame_of f; store = store_of (code_in old).variables v.items })
    → Steps (code_in old) old.slots made (point_in old) q (point_in (with_main_both f v old))
strode_main q made f v old a g h e =
    strides_made (λ _ _. false) (code_in old) old.slots the_main (point_in old) q made (kept_in old).main (record { frame = frames.frame_of f; store = store_of (code_in old).variables v.items }) (λ n d t. let z : false ≡ true = t in cc) (stood_main q old a g h) e

pub along_main : (q made : ℕ) (f : FrameValue) (v : Vec ℤ Global) (old : Activities) → AreActivities old → old.shared.ended ≡ None → held_of (kept_in old).held q ≡ Some the_main
    → strides_past (λ _ _. false) (code_in old) made (record { frame = frames.frame_of old.main.frame; store = store_of (code_in old).variables (kept_in old).shared.cells }) ≡ Some (record { frame = frames.frame_of f; store = store_of (code_in old).variables v.items })
    → GoesAlong old q made (with_main_both f v old)
along_main q made f v old a g h e g2 here path =
    along (λ _ _. false) (code_in old) old.slots the_main (point_in old) q made (kept_in old).main (record { frame = frames.frame_of f; store = store_of (code_in old).variables v.items }) (λ n d t. let z : false ≡ true = t in cc) (stood_main q old a g h) e g2 here path

pub main_strode_stands : (f : FrameValue) (v : Vec ℤ Global) (old : Activities) → AreActivities old → length v.items ≡ length (kept_in old).shared.cells → AreActivities (with_main_both f v old)
main_strode_stands f v old a l = record {
  core = led_core (code_in old) old.slots (kept_in old) v.items (kept_in old).shared.output (kept_in old).shared.loop (kept_in old).shared.ended (kept_in old).input (frames.frame_of f) a.core l a.core.indices;
  processors = a.processors;
}
