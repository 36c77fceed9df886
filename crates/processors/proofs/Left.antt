-- Where nothing can be done, no processor has a step.
use Rattle.std.proofs.Common.{inl, inr, ◌≡◌, ◌∙◌, ℕ, Bool, true, false, Some, None, refl, sym, subst, arith}
use Rattle.std.specs.Prelude.{IfOk, Result, Ok, Err}
use Rattle.std.specs.declared.alloc.AllocError.{AllocError}
use Rattle.machine.specs.Code.{Code}
use Rattle.machine.specs.State.{Choice, take_main, take_iteration, take_ticket, CodeStep, put_at, the_main, iteration}
use Rattle.activities.specs.Least.{IsLeast}
use Rattle.activities.specs.Points.{Moves, Picks, Point, taken}
use Rattle.replay.specs.CoreView.{CoreView, point_at}
use Rattle.replay.specs.Stepping.{IsGoing}
use Rattle.replay.proofs.Ongoing.{IsOne, step_is_one}
use Rattle.unrecorded.specs.View as run
use Rattle.unrecorded.specs.View.{RunView, Shares, TakesUp}
use Rattle.processors.specs.Left.{NoneSteps, NoLocalIn, NoPickIn, NoStepIn}
use Rattle.processors.specs.Refused.{IsStuckAt}

pub stuck_at : (code : Code) (p s : ℕ) (x : CoreView) → x.code ≡ code → x.schedule.processors ≡ p → x.schedule.slots ≡ s → IsGoing x → NoneSteps x → IsStuckAt code p s (point_at x).machine
stuck_at code p s x c a b going none =
    (going, λ q n lt step. none q n (omega (arith, lt, a), subst (λ (k : Code). CodeStep k x.schedule.slots (point_at x).machine q n) (sym c) (subst (λ (i : ℕ). CodeStep code i (point_at x).machine q n) (sym b) step)))

-- ---- without one

-- where the least choice can't be taken up, nothing can
pub none_taken : (x : RunView) (q : ℕ) (c : Choice) → IsLeast (run.point_at x).machine c → ((b : Point) → Picks x.code x.slots c (run.point_at x) q b → ⊥) → NoPickIn x q
none_taken x q take_main least none d b p = none _ (main_up p)
  where
    main_up : Picks x.code x.slots d (run.point_at x) q b → Picks x.code x.slots take_main (run.point_at x) q (record { machine = record (run.point_at x).machine { waiting = None; held = put_at (run.point_at x).machine.held q (Some the_main) }; order = taken x.slots take_main (run.point_at x).order })
    main_up p = record { going = p.going; idle = p.idle; takes = (least.0, least.1, least.2, refl); order = refl }
none_taken x q (take_iteration k) least none d b p = none _ (one_up p)
  where
    one_up : Picks x.code x.slots d (run.point_at x) q b → Picks x.code x.slots (take_iteration k) (run.point_at x) q (record { machine = record (run.point_at x).machine { parked = put_at (run.point_at x).machine.parked k None; held = put_at (run.point_at x).machine.held q (Some (iteration k)) }; order = taken x.slots (take_iteration k) (run.point_at x).order })
    one_up p = let w = least.1.0 in record { going = p.going; idle = p.idle; takes = (w.0, w.1, w.2, refl); order = refl }
none_taken x q take_ticket least none take_main b p = least.0 (p.takes.0, p.takes.1, p.takes.2)
none_taken x q take_ticket least none (take_iteration j) b p = least.1 j (p.takes.0, p.takes.1, p.takes.2)
none_taken x q take_ticket least none take_ticket b p = none b p

pub take_none : (x y : RunView) (q : ℕ) (c : Choice) (r : Result Bool AllocError) → IsLeast (run.point_at x).machine c → IfOk r (λ did. TakesUp did x q c y) → IfOk r (λ did. did ≡ false → (y ≡ x) × NoPickIn x q)
take_none x y q c (Ok true) least h = λ e. cc
take_none x y q c (Ok false) least h = λ e. (h.0, none_taken x q c least h.1)
take_none x y q c (Err e) least h = tt

pub none_in : (x : RunView) (q : ℕ) → NoLocalIn x q → ((b : Point) → Moves x.code x.slots false (run.point_at x) q b → ⊥) → NoPickIn x q → NoStepIn x q
none_in x q local moves picks n step = by (step_is_one x.code x.slots (run.point_at x) q n step)
  where
    by : IsOne x.code x.slots (run.point_at x) q → ⊥
    by (inl h) = let z : true ≡ false = sym h ∙ local in cc
    by (inr (inl h)) = moves h.0 h.1
    by (inr (inr h)) = picks h.0 h.1 h.2

-- what isn't local, shared or taken up isn't there
pub go_none : (x y z u : RunView) (q : ℕ) (a b : Bool) (r : Result Bool AllocError) → (a ≡ false → (y ≡ x) × NoLocalIn x q) → a ≡ false → Shares b y q z → b ≡ false → IfOk r (λ did. did ≡ false → (u ≡ z) × NoPickIn z q)
    → IfOk r (λ did. did ≡ false → (u ≡ x) × NoStepIn x q)
go_none x y z u q a b (Err e) w f s g h = tt
go_none x y z u q a b (Ok d) w f s g h = λ e.
    let l = w f in
    let t : Shares false y q z = subst (λ (c : Bool). Shares c y q z) g s in
    let same : z ≡ x = t.0 ∙ l.0 in
    let n = h e in
    (n.0 ∙ same, none_in x q l.1 (subst (λ (v : RunView). (c : Point) → Moves v.code v.slots false (run.point_at v) q c → ⊥) l.0 t.1) (subst (λ (v : RunView). NoPickIn v q) same n.1))
