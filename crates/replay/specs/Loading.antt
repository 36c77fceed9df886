-- What a core gives to who would do local work, and takes from who has done it.
use Rattle.std.specs.Prelude.{◌≡◌, ℕ, Bool, true, false, Some}
use Rattle.machine.specs.CodeView.{code_of}
use Rattle.machine.specs.Frame.{Frame}
use Rattle.machine.specs.FrameView.{frame_of}
use Rattle.machine.specs.WorkView.{work_of}
use Rattle.machine.specs.declared.work.Work.{Work}
use Rattle.activities.specs.Activities.{frame_at}
use Rattle.replay.specs.CoreView.{CoreView, point_at}
use Rattle.activities.specs.Points.{local_in}
use Rattle.replay.specs.Stepping.{CannotHandIn, HandsInAll, HasLocal}
use Rattle.replay.specs.declared.stepped.HandIn.{HandIn}

-- processor q holds an activity with this frame
abbrev pub HasFrame : CoreView → ℕ → Frame → Type 0
HasFrame x q f = frame_at q (point_at x) ≡ Some f

-- A local instruction of what processor q holds stands next, and the work leads from its frame; or
-- none does, and the work hasn't changed.
abbrev pub Loads : CoreView → ℕ → Work → Work → Bool → Type 0
Loads x q old new true = HasLocal x q × HasFrame x q (frame_of new.from) × (new.made ≡ 0)
Loads x q old new false =
    (local_in x.code (frame_at q (point_at x)) ≡ false) × (work_of new ≡ work_of old)

-- local work of any length was handed in
abbrev pub HandsInWork : CoreView → ℕ → Work → CoreView → Type 0
HandsInWork x q w y = HandsInAll x q (code_of w.code.now) (frame_of w.from) w.made y

-- why it isn't taken
abbrev pub CannotHandInWork : CoreView → ℕ → Work → HandIn → Type 0
CannotHandInWork x q w refusal = CannotHandIn x q (code_of w.code.now) (frame_of w.from) refusal
