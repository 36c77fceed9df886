-- Local work that is done elsewhere and handed in.
use Rattle.std.specs.Prelude.{◌≡◌, ℕ, Bool, true, false, Some}
use Rattle.machine.specs.Frame.{Frame}
use Rattle.machine.specs.FrameView.{frame_of}
use Rattle.machine.specs.WorkView.{work_of}
use Rattle.machine.specs.declared.work.Work.{Work}
use Rattle.activities.specs.Activities.{frame_at}
use Rattle.activities.specs.Points.{Works, local_in}
use Rattle.replay.specs.declared.stepped.HandIn.{HandIn}
use Rattle.replay.specs.declared.stepped.HandIn.TheVariants as hand_ins
use Rattle.unrecorded.specs.View.{HasEnded, IsGoing, IsSameRun, RunView, point_at}

-- processor q holds an activity with this frame
abbrev pub HasFrame : RunView → ℕ → Frame → Type 0
HasFrame x q f = frame_at q (point_at x) ≡ Some f

-- whether a local instruction of what processor q holds stands next
abbrev pub is_local : RunView → ℕ → Bool
is_local x q = local_in x.code (frame_at q (point_at x))

-- A local instruction of what processor q holds stands next, and the work leads from its frame; or
-- none does, and the work hasn't changed.
abbrev pub Loads : RunView → ℕ → Work → Work → Bool → Type 0
Loads x q old new true = (is_local x q ≡ true) × HasFrame x q (frame_of new.from) × (new.made ≡ 0)
Loads x q old new false = (is_local x q ≡ false) × (work_of new ≡ work_of old)

-- so many local instructions of what processor q holds were made
abbrev pub WorksOn : RunView → ℕ → ℕ → RunView → Type 0
WorksOn x q n y = IsSameRun x y × Works x.code x.slots n (point_at x) q (point_at y)

-- The local work that leads from the frame of what processor q holds was handed in.
abbrev pub HandsIn : RunView → ℕ → Work → RunView → Type 0
HandsIn x q w y = IsGoing x × HasFrame x q (frame_of w.from) × WorksOn x q w.made y

-- why it isn't taken: the run had ended, or the processor doesn't hold that frame
abbrev pub CannotHandIn : RunView → ℕ → Work → HandIn → Type 0
CannotHandIn x q w hand_ins.Ended = HasEnded x
CannotHandIn x q w hand_ins.Stranger = IsGoing x × (HasFrame x q (frame_of w.from) → ⊥)
CannotHandIn x q w hand_ins.Memory = ⊥
