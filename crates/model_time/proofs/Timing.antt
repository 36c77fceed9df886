-- Turns and units of runs.
use Rattle.std.proofs.Common.{Bool, ◌≡◌, ◌∙◌, ℕ, zero, suc, ◌+◌, ◌-◌, ◌^◌, true, false, List, length, Option, Some, None, refl, sym, ap, subst, arith}
use Rattle.std.specs.Prelude.{min, is_some, IfSome}
use Rattle.ast.specs.declared.answer.Answer.{Answer}
use Rattle.machine.specs.Code.{Code}
use Rattle.machine.specs.State.{Machine}
use Rattle.activities.specs.Activities.{chosen}
use Rattle.activities.specs.Least.{IsLeast}
use Rattle.activities.specs.Points.{Moves, Picks, Point, beginning}
use Rattle.activities.specs.declared.holding.Choice as held
use Rattle.activities.specs.declared.holding.Choice.TheVariants.{Main, Iteration, Ticket}
use Rattle.replay.specs.Replayed.{IsAnswer}
use Rattle.schedules.specs.Schedules.{Schedule}
use Rattle.unrecorded.specs.View.{IsNew, IsReached, IsRun, IsSameRun, Labours, RunView, Shares, TakesUp, point_at}
use Rattle.model_time.specs.Figures.{counted, no_figures, sum, told}
use Rattle.model_time.specs.Records.{AlsoRecords, IsRecord, RecordsWanted}
use Rattle.model_time.specs.Timed.{Answers, IsTimed}
use Rattle.model_time.specs.Turns.{IsTurn, Turn, left, open_in}
use Rattle.model_time.specs.Units.{AreUnits, IsLeft, IsUnitOf, MayLeave, Turns, UnitOf, Units, no_figures_of}
use Rattle.model_time.specs.declared.figures.Figures.{Figures}
use Rattle.model_time.specs.declared.pace.Pace.{Pace}
use Rattle.model_time.specs.declared.timed.Timed.{Timed}
use Rattle.model_time.specs.declared.turned.Left.{Left}
use Rattle.model_time.specs.declared.turned.Left.TheVariants.{Held, Parked, Retired}
use Rattle.model_time.specs.declared.turned.Turned.{Turned}
use Rattle.model_time.specs.declared.turned.Turned.TheVariants.{Local, Shared, Picked, Waited}

-- ---- one run at different times

pub same_first : (x : RunView) → IsSameRun x x
same_first x = record { code_is = refl; input_is = refl; processors = refl; slots = refl }

pub same_on : (x y z : RunView) → IsSameRun x y → IsSameRun y z → IsSameRun x z
same_on x y z h k = record {
  code_is = k.code_is ∙ h.code_is;
  input_is = k.input_is ∙ h.input_is;
  processors = k.processors ∙ h.processors;
  slots = k.slots ∙ h.slots;
}

-- what holds of a run's code and slots holds of those that it had
of_same : (x y : RunView) (P : Code → ℕ → Type 0) → IsSameRun x y → P y.code y.slots → P x.code x.slots
of_same x y P h p = subst (λ (s : ℕ). P x.code s) h.slots (subst (λ (c : Code). P c y.slots) h.code_is p)

-- the same where it stands where it stood
of_still : (x y : RunView) (P : Code → ℕ → Point → Type 0) → IsSameRun x y → point_at y ≡ point_at x → P y.code y.slots (point_at y) → P x.code x.slots (point_at x)
of_still x y P h e p = subst (λ (a : Point). P x.code x.slots a) e (of_same x y (λ c s. P c s (point_at y)) h p)

-- ---- a turn

pub shared_turn : (x y z : RunView) (q : ℕ) (l : Left) → Labours false x q y → Shares true y q z → l ≡ left (open_in (point_at y)) q (point_at z) → IsTurn x q (Shared l) z
shared_turn x y z q l none did is = (
  same_on x y z none.0 did.0,
  (
    of_still x y (λ c s a. Moves c s false a q (point_at z)) none.0 none.1 did.1,
    subst (λ (a : Point). l ≡ left (open_in a) q (point_at z)) none.1 is,
  ),
)

pub picked_turn : (x y z u : RunView) (q : ℕ) (c : held.Choice) → Labours false x q y → Shares false y q z → IsLeast (point_at z).machine (chosen c) → TakesUp true z q (chosen c) u → IsTurn x q (Picked c) u
picked_turn x y z u q c none idle least did =
    let least : IsLeast (point_at y).machine (chosen c) = subst (λ (v : RunView). IsLeast (point_at v).machine (chosen c)) idle.0 least in
    let did : TakesUp true y q (chosen c) u = subst (λ (v : RunView). TakesUp true v q (chosen c) u) idle.0 did in (
      same_on x y u none.0 did.0,
      (
        subst (λ (a : Point). IsLeast a.machine (chosen c)) none.1 least,
        of_still x y (λ d s a. Picks d s (chosen c) a q (point_at u)) none.0 none.1 did.1,
      ),
    )

pub waited_turn : (x y z u : RunView) (q : ℕ) (c : held.Choice) → Labours false x q y → Shares false y q z → IsLeast (point_at z).machine (chosen c) → TakesUp false z q (chosen c) u → IsTurn x q Waited u
waited_turn x y z u q c none idle least did =
    let least : IsLeast (point_at y).machine (chosen c) = subst (λ (v : RunView). IsLeast (point_at v).machine (chosen c)) idle.0 least in
    let did : TakesUp false y q (chosen c) u = subst (λ (v : RunView). TakesUp false v q (chosen c) u) idle.0 did in (
      subst (λ (v : RunView). IsSameRun x v) (sym did.0) none.0,
      (
        ap point_at did.0 ∙ none.1,
        (
          none.2,
          of_still x y (λ d s a. (b : Point) → Moves d s false a q b → ⊥) none.0 none.1 idle.1,
          chosen c,
          subst (λ (a : Point). IsLeast a.machine (chosen c)) none.1 least,
          of_still x y (λ d s a. (b : Point) → Picks d s (chosen c) a q b → ⊥) none.0 none.1 did.1,
        ),
      ),
    )

-- ---- units

-- one turn more
pub more_turns : (x y z : RunView) (q : ℕ) (f g : Figures) (t : Turned) (n m : ℕ) → m ≡ q + 1 → IsSameRun x y → Turns x.code x.slots q (point_at x) f (point_at y) → IsTurn y q t z → g ≡ counted f t n → n ≡ open_in (point_at z)
    → Turns x.code x.slots m (point_at x) g (point_at z)
more_turns x y z q f g t n m next h turns turn is same =
    let after : suc q ≡ m = omega (arith, next) in
    subst (λ (k : ℕ). Turns x.code x.slots k (point_at x) g (point_at z)) after
    (point_at y, f, t, turns, of_same x y (λ c s. Turn c s (point_at y) q t (point_at z)) h turn.1, is ∙ ap (λ (m : ℕ). counted f t m) same)

-- one unit more
pub more_units : (x y z : RunView) (u f g k : Figures) (fs gs ks : List Figures) → AreUnits x f fs y g gs → IsUnitOf u y g gs z k ks → AreUnits x f fs z k ks
more_units x y z u f g k fs gs ks h more = (
  same_on x y z h.0 more.0,
  suc h.1,
  (point_at y, g, gs, h.2, (u, subst (λ (p : ℕ). UnitOf x.code x.slots p u (point_at y) g gs (point_at z) k ks) h.0.processors (of_same x y (λ c s. UnitOf c s y.processors u (point_at y) g gs (point_at z) k ks) h.0 more.1))),
)

pub no_units : (x : RunView) (f : Figures) (fs : List Figures) → AreUnits x f fs x f fs
no_units x f fs = (same_first x, 0, (refl, refl, refl))

-- ---- their time

told_time : (f : Figures) (t : Turned) → (told f t).time ≡ f.time
told_time f Local = refl
told_time f (Shared Held) = refl
told_time f (Shared Parked) = refl
told_time f (Shared Retired) = refl
told_time f (Picked Main) = refl
told_time f (Picked (Iteration k)) = refl
told_time f (Picked Ticket) = refl
told_time f Waited = refl

turns_time : (code : Code) (s q : ℕ) (a b : Point) (f : Figures) → Turns code s q a f b → f.time ≡ 1
turns_time code s zero a b f h = ap (λ (g : Figures). g.time) h.1
turns_time code s (suc q) a b f h = ap (λ (g : Figures). g.time) h.5 ∙ told_time h.1 h.2 ∙ turns_time code s q a h.0 h.1 h.3

one_more : (m n : ℕ) → min (min n m + 1) m ≡ min (suc n) m
one_more m n = omega (arith)

pub units_time : (code : Code) (s p n : ℕ) (a b : Point) (f g : Figures) (fs gs : List Figures) → Units code s p n a f fs b g gs → f.time ≡ 0 → g.time ≡ min n (2 ^ 64 - 1)
units_time code s p zero a b f g fs gs h z = ap (λ (k : Figures). k.time) h.1 ∙ z
units_time code s p (suc n) a b f g fs gs h z =
    let before : h.1.time ≡ min n (2 ^ 64 - 1) = units_time code s p n a h.0 f h.1 fs h.2 h.3 z in
    ap (λ (k : Figures). k.time) h.4.1.2
    ∙ ap (λ m. sum m h.4.0.time) before
    ∙ ap (λ m. sum (min n (2 ^ 64 - 1)) m) (turns_time code s p h.0 b h.4.0 h.4.1.1)
    ∙ one_more (2 ^ 64 - 1) n

-- ---- what came of a run

pub answers_of : (code : Code) (m : Machine) (o : Option Answer) → IfSome o (IsAnswer code m) → (o ≡ None → m.ended ≡ None) → Answers code m o
answers_of code m None some none = none refl
answers_of code m (Some answer) some none = some

reached_by : (x y : RunView) (code : Code) (input : List ℕ) (p s : ℕ) → IsNew code input p s x → IsSameRun x y → IsRun y → IsReached code input p s (point_at y).machine
reached_by x y code input p s new h r =
    let one = subst (λ (c : Code). IsReached c y.input y.processors y.slots (point_at y).machine) (h.code_is ∙ new.code_is) r in
    let two = subst (λ (i : List ℕ). IsReached code i y.processors y.slots (point_at y).machine) (h.input_is ∙ new.input_is) one in
    let three = subst (λ (n : ℕ). IsReached code input n y.slots (point_at y).machine) (h.processors ∙ new.processors) two in
    subst (λ (n : ℕ). IsReached code input p n (point_at y).machine) (h.slots ∙ new.slots) three

counted_by : (x : RunView) (b : Point) (code : Code) (input : List ℕ) (p s n : ℕ) (f g : Figures) (fs gs : List Figures) → IsNew code input p s x → f ≡ no_figures → fs ≡ no_figures_of (length code.loops)
    → Units x.code x.slots x.processors n (point_at x) f fs b g gs → Units code s p n (beginning code input s) no_figures (no_figures_of (length code.loops)) b g gs
counted_by x b code input p s n f g fs gs new none nones h =
    let one = subst (λ (c : Code). Units c x.slots x.processors n (point_at x) f fs b g gs) new.code_is h in
    let two = subst (λ (k : ℕ). Units code k x.processors n (point_at x) f fs b g gs) new.slots one in
    let three = subst (λ (k : ℕ). Units code s k n (point_at x) f fs b g gs) new.processors two in
    let four = subst (λ (a : Point). Units code s p n a f fs b g gs) new.point three in
    let five = subst (λ (k : Figures). Units code s p n (beginning code input s) k fs b g gs) none four in
    subst (λ (ks : List Figures). Units code s p n (beginning code input s) no_figures ks b g gs) nones five

recorded_by : (x y : RunView) (code : Code) (input : List ℕ) (p s : ℕ) (wanted : Bool) (old kept : Option Schedule) → IsNew code input p s x → IsSameRun x y → is_some old ≡ wanted → AlsoRecords old y kept → RecordsWanted wanted code input p s kept (point_at y)
recorded_by x y code input p s wanted old kept new h e r =
    let holds = λ (c : Code) (i : List ℕ) (q t : ℕ). IfSome kept (λ z. IsRecord c i q t z (point_at y)) in
    let one = subst (λ (c : Code). holds c y.input y.processors y.slots) (h.code_is ∙ new.code_is) r.1 in
    let two = subst (λ (i : List ℕ). holds code i y.processors y.slots) (h.input_is ∙ new.input_is) one in
    let three = subst (λ (n : ℕ). holds code input n y.slots) (h.processors ∙ new.processors) two in
    (r.0 ∙ e, subst (λ (n : ℕ). holds code input p n) (h.slots ∙ new.slots) three)

left_by : (x y : RunView) (code : Code) (input : List ℕ) (p s most : ℕ) (f : Figures) → IsNew code input p s x → IsSameRun x y → IsLeft most y f → MayLeave code p s most (point_at y).machine f
left_by x y code input p s most f new h l =
    let m = (point_at y).machine in
    let one = subst (λ (c : Code). MayLeave c y.processors y.slots most m f) (h.code_is ∙ new.code_is) l in
    let two = subst (λ (n : ℕ). MayLeave code n y.slots most m f) (h.processors ∙ new.processors) one in
    subst (λ (n : ℕ). MayLeave code p n most m f) (h.slots ∙ new.slots) two

pub timed : (x y : RunView) (code : Code) (input : List ℕ) (pace : Pace) (old : Option Schedule) (f : Figures) (fs : List Figures) (t : Timed) → IsNew code input pace.processors pace.slots x → is_some old ≡ pace.schedule → f ≡ no_figures → fs ≡ no_figures_of (length code.loops)
    → AreUnits x f fs y t.program t.loops.items → AlsoRecords old y t.schedule → IsLeft pace.most y t.program → IsRun y → Answers y.code (point_at y).machine t.answer → IsTimed code input pace t
timed x y code input pace old f fs t new wanted none nones h records left r a =
    let p = pace.processors in
    let s = pace.slots in
    let counted : Units code s p h.1 (beginning code input s) no_figures (no_figures_of (length code.loops)) (point_at y) t.program t.loops.items = counted_by x (point_at y) code input p s h.1 f t.program fs t.loops.items new none nones h.2 in
    record {
      sizes = new.sizes;
      units = h.1;
      point = point_at y;
      counted = counted;
      time = units_time code s p h.1 (beginning code input s) (point_at y) no_figures t.program (no_figures_of (length code.loops)) t.loops.items counted refl;
      reached = reached_by x y code input p s new h.0 r;
      answers = subst (λ (c : Code). Answers c (point_at y).machine t.answer) (h.0.code_is ∙ new.code_is) a;
      left = left_by x y code input p s pace.most t.program new h.0 left;
      records = recorded_by x y code input p s pace.schedule old t.schedule new h.0 wanted records;
    }
