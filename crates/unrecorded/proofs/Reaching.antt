-- A run of the machine goes on.
use Rattle.std.proofs.Common.{inl, inr, ◌⊎◌, ◌≡◌, ◌∙◌, ℕ, zero, suc, ◌<◌, Bool, true, false, List, [], ◌∷◌, ◌++◌, length, Option, Some, refl, sym, ap, subst, arith}
use Rattle.std.specs.Prelude.{◌≤◌, ◌==◌, Result, Ok, Err, IfOk, OnErr}
use Rattle.std.specs.declared.alloc.AllocError.{AllocError}
use Rattle.machine.specs.Code.{Code}
use Rattle.machine.specs.Frame.{Frame}
use Rattle.machine.specs.Local.{locals}
use Rattle.machine.specs.State.{Choice, CodeRun, CodeStep, Init, Machine, Turn, Who, take_ticket}
use Rattle.machine.specs.View.{view, trips_of, begin}
use Rattle.machine.specs.declared.code.Open.{Open}
use Rattle.activities.specs.Activities.{AreActivities, Stays, code_in, kept_in, point_in}
use Rattle.activities.specs.Activities.{Did as Goes}
use Rattle.activities.specs.Parts.{Kept, point_of}
use Rattle.activities.specs.Points.{Acts, Moves, NoLocal, Picks, Point, Proceeds, Steps, Works}
use Rattle.activities.specs.Putting.{PutsOn}
use Rattle.activities.specs.declared.holding.Activities.{Activities}
use Rattle.unrecorded.specs.Handing.{HasFrame, WorksOn}
use Rattle.unrecorded.specs.View.{Did, Drives, GoesOn, IsReached, IsSameRun, Labours, RunView, Shares, TakesUp, point_at}
use Rattle.unrecorded.specs.Whole.{IsWhole, seen_as}

-- a run, and one turn more
more : (code : Code) (s p q : ℕ) (qs : List ℕ) (m n o : Machine) → CodeRun code s p m qs n → q < p → CodeStep code s n q o → CodeRun code s p m (qs ++ q ∷ []) o
more code s p q [] m n o r h t = (o, h, subst (λ (x : Machine). CodeStep code s x q o) (sym r) t, refl)
more code s p q (r ∷ rs) m n o run h t = (run.0, run.1, run.2, more code s p q rs run.0 n o run.3 h t)

one_more : (code : Code) (input : List ℕ) (p s q : ℕ) (m n : Machine) → IsReached code input p s m → q < p → CodeStep code s m q n → IsReached code input p s n
one_more code input p s q m n r h t = record { turns = r.turns ++ q ∷ []; run = more code s p q r.turns (Init code input) m n r.run h t }

many_more : (code : Code) (input : List ℕ) (p s q n : ℕ) (a b : Point) → IsReached code input p s a.machine → q < p → Steps code s n a q b → IsReached code input p s b.machine
many_more code input p s q zero a b r h t = subst (λ (z : Point). IsReached code input p s z.machine) t r
many_more code input p s q (suc n) a b r h t = many_more code input p s q n t.0 b (one_more code input p s q a.machine t.0.machine r h t.2.step) h t.3

works_are_steps : (code : Code) (s n : ℕ) (a : Point) (q : ℕ) (b : Point) → Works code s n a q b → Steps code s n a q b
works_are_steps code s zero a q b w = w
works_are_steps code s (suc n) a q b w = (w.0, true, w.1, works_are_steps code s n w.0 q b w.2)

pick_step : (code : Code) (s : ℕ) (c : Choice) (a : Point) (q : ℕ) (b : Point) → Picks code s c a q b → CodeStep code s a.machine q b.machine
pick_step code s c a q b h = record {
  going = h.going;
  turn = subst (λ (o : Option Who). Turn Frame Open (view code) trips_of (begin code) s o a.machine q b.machine) (sym h.idle) (c, h.takes);
}

acts_step : (begins : Bool) (code : Code) (s : ℕ) (a : Point) (q : ℕ) (b : Point) → Acts begins code s a q b → CodeStep code s a.machine q b.machine
acts_step begins code s a q b (inl h) = h.1.step
acts_step begins code s a q b (inr h) = pick_step code s take_ticket a q b h.2

as_many_more : (begins : Bool) (code : Code) (input : List ℕ) (p s q n : ℕ) (a b : Point) → IsReached code input p s a.machine → q < p → Proceeds begins code s n a q b → IsReached code input p s b.machine
as_many_more begins code input p s q zero a b r h t = subst (λ (z : Point). IsReached code input p s z.machine) t r
as_many_more begins code input p s q (suc n) a b r h t = as_many_more begins code input p s q n t.0 b (one_more code input p s q a.machine t.0.machine r h (acts_step begins code s a q t.0 t.1)) h t.2

-- ---- what stays

stays_reached : (input : List ℕ) (a b : Activities) → Stays a b → IsReached (code_in a) input (length a.held.items) a.slots (point_in b).machine → IsReached (code_in b) input (length b.held.items) b.slots (point_in b).machine
stays_reached input a b t r =
    let one = subst (λ (k : Code). IsReached k input (length a.held.items) a.slots (point_in b).machine) (sym t.code_is) r in
    let two = subst (λ (p : ℕ). IsReached (code_in b) input p a.slots (point_in b).machine) (sym t.processors) one in
    subst (λ (s : ℕ). IsReached (code_in b) input (length b.held.items) s (point_in b).machine) (sym t.slots) two

point_same : (a b : Activities) → Stays a b → kept_in b ≡ kept_in a → point_in b ≡ point_in a
point_same a b t k = ap (λ (c : Code). point_of c.variables b.slots (kept_in b)) t.code_is ∙ ap (λ (s : ℕ). point_of (code_in a).variables s (kept_in b)) t.slots ∙ ap (λ (x : Kept). point_of (code_in a).variables a.slots x) k

seen_same : (input : List ℕ) (a b : Activities) → Stays a b → kept_in b ≡ kept_in a → seen_as input b ≡ seen_as input a
seen_same input a b t k =
    ap (λ (c : Code). seen c (length b.held.items) b.slots (kept_in b)) t.code_is
    ∙ ap (λ (p : ℕ). seen (code_in a) p b.slots (kept_in b)) t.processors
    ∙ ap (λ (s : ℕ). seen (code_in a) (length a.held.items) s (kept_in b)) t.slots
    ∙ ap (λ (x : Kept). seen (code_in a) (length a.held.items) a.slots x) k
  where
    seen : Code → ℕ → ℕ → Kept → RunView
    seen c p s x = record { code = c; input = input; processors = p; slots = s; kept = x }

same_run : (input : List ℕ) (a b : Activities) → Stays a b → IsSameRun (seen_as input a) (seen_as input b)
same_run input a b t = record { code_is = t.code_is; input_is = refl; processors = t.processors; slots = t.slots }

-- nothing has changed
whole_same : (input : List ℕ) (a b : Activities) → IsWhole input a → AreActivities b → Stays a b → kept_in b ≡ kept_in a → IsWhole input b
whole_same input a b w stand t k = record {
  stand = stand;
  reached = stays_reached input a b t (subst (λ (p : Point). IsReached (code_in a) input (length a.held.items) a.slots p.machine) (sym (point_same a b t k)) w.reached);
}

-- so many steps were made
whole_more : (input : List ℕ) (a b : Activities) (x : RunView) (q n : ℕ) → seen_as input a ≡ x → IsWhole input a → AreActivities b → Stays a b → q < x.processors → Steps (code_in a) a.slots n (point_in a) q (point_in b) → IsWhole input b
whole_more input a b x q n e w stand t h d = record {
  stand = stand;
  reached = stays_reached input a b t (many_more (code_in a) input (length a.held.items) a.slots q n (point_in a) (point_in b) w.reached (subst (λ (y : RunView). q < y.processors) (sym e) h) d);
}

-- ---- calls of activities

pub shared_whole : (input : List ℕ) (a b : Activities) (x : RunView) (q : ℕ) (r : Result Bool AllocError) → seen_as input a ≡ x → IsWhole input a → AreActivities b → Stays a b → q < x.processors
    → IfOk r (λ did. Goes did (λ c d. Moves (code_in a) a.slots false c q d) a b) → OnErr r (kept_in b ≡ kept_in a) → IsWhole input b
shared_whole input a b x q (Ok true) e w stand t h d f = whole_more input a b x q 1 e w stand t h (point_in b, false, d, refl)
shared_whole input a b x q (Ok false) e w stand t h d f = whole_same input a b w stand t d.0
shared_whole input a b x q (Err z) e w stand t h d f = whole_same input a b w stand t f

pub picked_whole : (input : List ℕ) (a b : Activities) (x : RunView) (q : ℕ) (c : Choice) (r : Result Bool AllocError) → seen_as input a ≡ x → IsWhole input a → AreActivities b → Stays a b → q < x.processors
    → IfOk r (λ did. Goes did (λ d e. Picks (code_in a) a.slots c d q e) a b) → OnErr r (kept_in b ≡ kept_in a) → IsWhole input b
picked_whole input a b x q c (Ok true) e w stand t h d f = record {
  stand = stand;
  reached = stays_reached input a b t (one_more (code_in a) input (length a.held.items) a.slots q (point_in a).machine (point_in b).machine w.reached (subst (λ (y : RunView). q < y.processors) (sym e) h) (pick_step (code_in a) a.slots c (point_in a) q (point_in b) d));
}
picked_whole input a b x q c (Ok false) e w stand t h d f = whole_same input a b w stand t d.0
picked_whole input a b x q c (Err z) e w stand t h d f = whole_same input a b w stand t f

did_seen : (input : List ℕ) (a b : Activities) (did : Bool) (Step : Point → Point → Type 0) → Stays a b → Goes did Step a b → Did did Step (seen_as input a) (seen_as input b)
did_seen input a b true Step t d = (same_run input a b t, d)
did_seen input a b false Step t d = (seen_same input a b t d.0, d.1)

pub shared_did : (input : List ℕ) (a b : Activities) (x : RunView) (q : ℕ) (r : Result Bool AllocError) → seen_as input a ≡ x → Stays a b
    → IfOk r (λ did. Goes did (λ c d. Moves (code_in a) a.slots false c q d) a b) → IfOk r (λ did. Shares did x q (seen_as input b))
shared_did input a b x q (Ok did) e t d = subst (λ (y : RunView). Shares did y q (seen_as input b)) e (did_seen input a b did (λ c z. Moves (code_in a) a.slots false c q z) t d)
shared_did input a b x q (Err z) e t d = tt

pub picked_did : (input : List ℕ) (a b : Activities) (x : RunView) (q : ℕ) (c : Choice) (r : Result Bool AllocError) → seen_as input a ≡ x → Stays a b
    → IfOk r (λ did. Goes did (λ d e. Picks (code_in a) a.slots c d q e) a b) → IfOk r (λ did. TakesUp did x q c (seen_as input b))
picked_did input a b x q c (Ok did) e t d = subst (λ (y : RunView). TakesUp did y q c (seen_as input b)) e (did_seen input a b did (λ z w. Picks (code_in a) a.slots c z q w) t d)
picked_did input a b x q c (Err z) e t d = tt

pub gone_whole : (begins : Bool) (input : List ℕ) (a b : Activities) (x : RunView) (q n : ℕ) → seen_as input a ≡ x → IsWhole input a → AreActivities b → Stays a b → q < x.processors → Proceeds begins (code_in a) a.slots n (point_in a) q (point_in b) → IsWhole input b
gone_whole begins input a b x q n e w stand t h d = record {
  stand = stand;
  reached = stays_reached input a b t (as_many_more begins (code_in a) input (length a.held.items) a.slots q n (point_in a) (point_in b) w.reached (subst (λ (y : RunView). q < y.processors) (sym e) h) d);
}

pub gone_on : (begins : Bool) (input : List ℕ) (a b : Activities) (x : RunView) (q n : ℕ) → seen_as input a ≡ x → Stays a b → Proceeds begins (code_in a) a.slots n (point_in a) q (point_in b) → GoesOn begins x q n (seen_as input b)
gone_on begins input a b x q n e t d = subst (λ (y : RunView). GoesOn begins y q n (seen_as input b)) e (same_run input a b t, d)

pub driven_whole : (input : List ℕ) (a b : Activities) (x : RunView) (q n : ℕ) → seen_as input a ≡ x → IsWhole input a → AreActivities b → Stays a b → q < x.processors → Steps (code_in a) a.slots n (point_in a) q (point_in b) → IsWhole input b
driven_whole = whole_more

pub driven : (input : List ℕ) (a b : Activities) (x : RunView) (q n : ℕ) → seen_as input a ≡ x → Stays a b → Steps (code_in a) a.slots n (point_in a) q (point_in b) → Drives x q n (seen_as input b)
driven input a b x q n e t d = subst (λ (y : RunView). Drives y q n (seen_as input b)) e (same_run input a b t, d)

pub no_local_seen : (input : List ℕ) (a b : Activities) (x : RunView) (q : ℕ) → seen_as input a ≡ x → NoLocal (code_in a) a.slots (point_in b) q → NoLocal x.code x.slots (point_at (seen_as input b)) q
no_local_seen input a b x q e h = subst (λ (y : RunView). NoLocal y.code y.slots (point_in b) q) e h

pub worked_whole : (input : List ℕ) (a b : Activities) (x : RunView) (q n : ℕ) → seen_as input a ≡ x → IsWhole input a → AreActivities b → Stays a b → q < x.processors → Works (code_in a) a.slots n (point_in a) q (point_in b) → IsWhole input b
worked_whole input a b x q n e w stand t h d = whole_more input a b x q n e w stand t h (works_are_steps (code_in a) a.slots n (point_in a) q (point_in b) d)

pub worked : (input : List ℕ) (a b : Activities) (x : RunView) (q n : ℕ) → seen_as input a ≡ x → Stays a b → Works (code_in a) a.slots n (point_in a) q (point_in b) → WorksOn x q n (seen_as input b)
worked input a b x q n e t d = subst (λ (y : RunView). WorksOn y q n (seen_as input b)) e (same_run input a b t, d)

pub worked_drives : (input : List ℕ) (a b : Activities) (x : RunView) (q n : ℕ) → seen_as input a ≡ x → Stays a b → Works (code_in a) a.slots n (point_in a) q (point_in b) → Drives x q n (seen_as input b)
worked_drives input a b x q n e t d = driven input a b x q n e t (works_are_steps (code_in a) a.slots n (point_in a) q (point_in b) d)

-- one local instruction at most
laboured_by : (input : List ℕ) (a b : Activities) (q n : ℕ) → Stays a b → Works (code_in a) a.slots n (point_in a) q (point_in b) → (n < 1 → NoLocal (code_in a) a.slots (point_in b) q) → n ≤ 1 → Labours (n == 1) (seen_as input a) q (seen_as input b)
laboured_by input a b q zero t d all few = (same_run input a b t, sym d, subst (λ (p : Point). NoLocal (code_in a) a.slots p q) (sym d) (all (omega (arith))))
laboured_by input a b q (suc zero) t d all few = (same_run input a b t, subst (λ (p : Point). Moves (code_in a) a.slots true (point_in a) q p) d.2 d.1)
laboured_by input a b q (suc (suc n)) t d all few = absurd (omega (arith, few))

pub laboured : (input : List ℕ) (a b : Activities) (x : RunView) (q n : ℕ) → seen_as input a ≡ x → Stays a b → Works (code_in a) a.slots n (point_in a) q (point_in b) → (n < 1 → NoLocal (code_in a) a.slots (point_in b) q) → n ≤ 1
    → Labours (n == 1) x q (seen_as input b)
laboured input a b x q n e t d all few = subst (λ (y : RunView). Labours (n == 1) y q (seen_as input b)) e (laboured_by input a b q n t d all few)

-- ---- work that is handed in

-- the frame that takes the place of another is that of so many local instructions
pub put_works : (input : List ℕ) (a b : Activities) (x : RunView) (code : Code) (q n : ℕ) (f g : Frame) → seen_as input a ≡ x → code ≡ x.code → HasFrame x q f → locals code.instructions n f ≡ Some g → PutsOn a q g b
    → Works (code_in a) a.slots n (point_in a) q (point_in b)
put_works input a b x code q n f g e k h l p =
    let same : code ≡ code_in a = k ∙ sym (ap (λ (y : RunView). y.code) e) in
    p n f (subst (λ (y : RunView). HasFrame y q f) (sym e) h) (subst (λ (c : Code). locals c.instructions n f ≡ Some g) same l)
