-- A frame that takes the place of another, to which local instructions lead from that.
use Rattle.std.specs.Prelude.{◌≡◌, ℕ, Option, Some, option_map}
use Rattle.machine.specs.Frame.{Frame}
use Rattle.machine.specs.Local.{locals}
use Rattle.activities.specs.Activities.{code_in, frame_at, point_in}
use Rattle.activities.specs.PartsView.{standing_of}
use Rattle.activities.specs.Points.{Works}
use Rattle.activities.specs.Sharing.{with_frame}
use Rattle.activities.specs.declared.holding.Activities.{Activities}
use Rattle.activities.specs.declared.parts.Iteration.{Iteration}

-- what stands in a place has it
abbrev pub HasGot : Frame → Option Iteration → Option Iteration → Type 0
HasGot g old new =
    option_map standing_of new ≡ option_map (with_frame g) (option_map standing_of old)

-- so many local instructions lead to it from the frame of what processor q holds
abbrev pub LeadTo : Activities → ℕ → ℕ → Frame → Type 0
LeadTo a q made to =
    (from : Frame) → frame_at q (point_in a) ≡ Some from
    → locals (code_in a).instructions made from ≡ Some to

-- how many of them ever lead to it, so many processor q has made
abbrev pub PutsOn : Activities → ℕ → Frame → Activities → Type 0
PutsOn a q to b =
    (made : ℕ) (from : Frame) → frame_at q (point_in a) ≡ Some from
    → locals (code_in a).instructions made from ≡ Some to
    → Works (code_in a) a.slots made (point_in a) q (point_in b)
