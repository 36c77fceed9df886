-- Turns of processors.
use Rattle.std.specs.Prelude.{◌≡◌, ◌==◌, ◌-◌, ℕ, true, false, is_some, if◌then◌else◌}
use Rattle.machine.specs.Code.{Code}
use Rattle.machine.specs.State.{Choice}
use Rattle.activities.specs.Activities.{chosen, frame_at}
use Rattle.activities.specs.Least.{IsLeast}
use Rattle.activities.specs.Points.{Moves, NoLocal, Picks, Point}
use Rattle.unrecorded.specs.View.{IsSameRun, RunView, point_at}
use Rattle.model_time.specs.declared.turned.Left.{Left}
use Rattle.model_time.specs.declared.turned.Left.TheVariants.{Held, Parked, Retired}
use Rattle.model_time.specs.declared.turned.Turned.{Turned}
use Rattle.model_time.specs.declared.turned.Turned.TheVariants.{Local, Shared, Picked, Waited}

-- how many iterations are open
abbrev pub open_in : Point → ℕ
open_in x = x.machine.ticket - x.machine.retired

-- Where a step leaves what processor q held, before which so many iterations were open: it holds
-- it; or it doesn't, and as many are open, or fewer.
abbrev pub left : ℕ → ℕ → Point → Left
left before q b =
    if is_some (frame_at q b) then Held
    else if open_in b == before then Parked else Retired

-- Processor q can make no step of what it holds, and can't take up what is least.
abbrev pub HasNoTurn : Code → ℕ → Point → ℕ → Type 0
HasNoTurn code s a q =
    NoLocal code s a q × ((b : Point) → Moves code s false a q b → ⊥)
    × (c : Choice) × IsLeast a.machine c × ((b : Point) → Picks code s c a q b → ⊥)

-- A turn of processor q: the local instruction that stands next of what it holds, or the shared
-- step of that; or it takes up what is least; where it can do none of these, nothing changes.
abbrev pub Turn : Code → ℕ → Point → ℕ → Turned → Point → Type 0
Turn code s a q Local b = Moves code s true a q b
Turn code s a q (Shared l) b = Moves code s false a q b × (l ≡ left (open_in a) q b)
Turn code s a q (Picked c) b = IsLeast a.machine (chosen c) × Picks code s (chosen c) a q b
Turn code s a q Waited b = (b ≡ a) × HasNoTurn code s a q

-- the same of a run
abbrev pub IsTurn : RunView → ℕ → Turned → RunView → Type 0
IsTurn x q t y = IsSameRun x y × Turn x.code x.slots (point_at x) q t (point_at y)
