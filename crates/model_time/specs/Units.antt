-- Units of time: in each the processors have their turns, one after another.
use Rattle.std.specs.Prelude.{◌≡◌, ◌≤◌, ◌<◌, ◌+◌, ◌⊎◌, ℕ, zero, suc, nat_lt, if◌then◌else◌}
use Rattle.std.specs.Prelude.{List, length, get_or, replicate, slice_set, Option, Some, None}
use Rattle.machine.specs.Code.{Code}
use Rattle.machine.specs.State.{CodeStep, Machine}
use Rattle.machine.specs.declared.code.Open.{Open}
use Rattle.activities.specs.Points.{Point}
use Rattle.unrecorded.specs.View.{IsSameRun, RunView, point_at}
use Rattle.model_time.specs.Figures.{counted, joined, no_figures, one_unit}
use Rattle.model_time.specs.Turns.{Turn, open_in}
use Rattle.model_time.specs.declared.figures.Figures.{Figures}
use Rattle.model_time.specs.declared.turned.Turned.{Turned}

-- The first q processors have their turns, and this is counted of them.
abbrev pub Turns : Code → ℕ → ℕ → Point → Figures → Point → Type 0
Turns code s zero a f b = (b ≡ a) × (f ≡ one_unit)
Turns code s (suc q) a f b =
    (x : Point) × (g : Figures) × (t : Turned) × Turns code s q a g x × Turn code s x q t b
    × (f ≡ counted g t (open_in b))

-- nothing, of so many loops
abbrev pub no_figures_of : ℕ → List Figures
no_figures_of n = replicate n no_figures

-- the figures of loops, with those of a unit at whose beginning this loop was open, if any
abbrev pub added_to : Option Open → Figures → List Figures → List Figures
added_to None f fs = fs
added_to (Some l) f fs =
    if nat_lt l.number (length fs) then slice_set fs l.number (joined (get_or fs l.number f) f)
    else fs

-- A unit of time of p processors in a run that hasn't ended, of which u is counted. f and g are the
-- figures of the program before it and behind it, fs and gs those of its loops.
abbrev pub UnitOf : Code → ℕ → ℕ → Figures → Point → Figures → List Figures → Point
    → Figures → List Figures → Type 0
UnitOf code s p u a f fs b g gs =
    (a.machine.ended ≡ None) × Turns code s p a u b × (g ≡ joined f u)
    × (gs ≡ added_to a.machine.loop u fs)

abbrev pub Unit : Code → ℕ → ℕ → Point → Figures → List Figures → Point → Figures
    → List Figures → Type 0
Unit code s p a f fs b g gs = (u : Figures) × UnitOf code s p u a f fs b g gs

-- so many units, one after another
abbrev pub Units : Code → ℕ → ℕ → ℕ → Point → Figures → List Figures → Point
    → Figures → List Figures → Type 0
Units code s p zero a f fs b g gs = (b ≡ a) × (g ≡ f) × (gs ≡ fs)
Units code s p (suc n) a f fs b g gs =
    (x : Point) × (h : Figures) × (hs : List Figures) × Units code s p n a f fs x h hs
    × Unit code s p x h hs b g gs

-- no processor has a step
abbrev pub NoneSteps : Code → (p s : ℕ) → Machine → Type 0
NoneSteps code p s m = (q : ℕ) (n : Machine) → q < p → CodeStep code s m q n → ⊥

-- A run of which this is counted may be left: it has ended, or at least so many steps were made, or
-- no step is possible.
abbrev pub MayLeave : Code → (p s most : ℕ) → Machine → Figures → Type 0
MayLeave code p s most m f = m.ended ≡ None → (most ≤ f.steps + f.again) ⊎ NoneSteps code p s m

-- ---- the same of a run

abbrev pub IsUnit : RunView → Figures → RunView → Type 0
IsUnit x f y = IsSameRun x y × Turns x.code x.slots x.processors (point_at x) f (point_at y)

abbrev pub IsUnitOf : Figures → RunView → Figures → List Figures → RunView → Figures
    → List Figures → Type 0
IsUnitOf u x f fs y g gs =
    IsSameRun x y × UnitOf x.code x.slots x.processors u (point_at x) f fs (point_at y) g gs

abbrev pub AreUnits : RunView → Figures → List Figures → RunView → Figures → List Figures → Type 0
AreUnits x f fs y g gs =
    IsSameRun x y × (n : ℕ)
    × Units x.code x.slots x.processors n (point_at x) f fs (point_at y) g gs

abbrev pub IsLeft : (most : ℕ) → RunView → Figures → Type 0
IsLeft most x f = MayLeave x.code x.processors x.slots most (point_at x).machine f
