-- Strides of what a processor holds, where the code tells the kinds of so many.
use Rattle.std.specs.Prelude.{◌≡◌, ℕ, Some}
use Rattle.machine.specs.Frame.{Frame}
use Rattle.activities.specs.Activities.{code_in, frame_at, point_in}
use Rattle.activities.specs.Kinds.{IsPath, Makes, kinds}
use Rattle.activities.specs.declared.holding.Activities.{Activities}

-- So many steps of processor q, if the code tells their kinds from its frame
-- on, are of these kinds.
abbrev pub GoesAlong : Activities → (q made : ℕ) → Activities → Type 0
GoesAlong old q made new =
    (f : Frame) → frame_at q (point_in old) ≡ Some f
    → IsPath (code_in old).instructions made f.place
    → Makes (code_in old) old.slots (kinds (code_in old).instructions made f.place)
    (point_in old) q (point_in new)
