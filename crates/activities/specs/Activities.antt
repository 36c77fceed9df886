-- What the activities of a core stand for, and what a call of them did.
use Rattle.std.specs.Prelude.{◌≡◌, ◌≤◌, ℕ, Bool, true, false, List, [], length}
use Rattle.std.specs.Prelude.{map, Option, Some, None, option_map, pos, replicate}
use Rattle.ast.specs.Input.{records_of}
use Rattle.machine.specs.Code.{Code}
use Rattle.machine.specs.CodeView.{code_of}
use Rattle.machine.specs.Frame.{Frame}
use Rattle.machine.specs.FrameView as frames
use Rattle.machine.specs.Laid.{count_of}
use Rattle.machine.specs.State as machine
use Rattle.machine.specs.State.{Who, the_main, iteration, take_main, take_iteration, take_ticket}
use Rattle.activities.specs.Core.{IsCore}
use Rattle.machine.specs.View.{Input}
use Rattle.activities.specs.Parts.{Kept, Shared, Standing, point_of}
use Rattle.activities.specs.PartsView.{input_of, shared_of, standing_of, wait}
use Rattle.activities.specs.Points.{Point, at_first, frame_of}
use Rattle.activities.specs.declared.holding.Activities.{Activities}
use Rattle.activities.specs.declared.holding.Choice.{Choice}
use Rattle.activities.specs.declared.holding.Choice.TheVariants as choices
use Rattle.activities.specs.declared.holding.Holder.{Holder}
use Rattle.activities.specs.declared.holding.Holder.TheVariants as holders

-- the activity that a processor holds, as the machine's state has it
abbrev pub who : Holder → Who
who holders.Main = the_main
who (holders.Iteration k at) = iteration k

-- what may be taken up, as the machine has it
abbrev pub chosen : Choice → machine.Choice
chosen choices.Main = take_main
chosen (choices.Iteration k) = take_iteration k
chosen choices.Ticket = take_ticket

-- what is shared as main begins, and its input
abbrev pub shared_at_first : Code → ℕ → Shared
shared_at_first code s = record {
  cells = replicate (count_of code.variables) (pos 0);
  order = at_first s;
  output = [];
  loop = None;
  ended = None;
}

abbrev pub input_at_first : List ℕ → Input
input_at_first input = record { left = []; records = records_of input }

-- what activities keep, as lists
abbrev pub kept_in : Activities → Kept
kept_in a = record {
  shared = shared_of a.shared;
  input = input_of a.main.input;
  main = frames.frame_of a.main.frame;
  waiting = option_map wait a.main.wait;
  iterations = map (λ o. option_map standing_of o) a.iterations.items;
  held = map (λ o. option_map who o) a.held.items;
}

-- the code that they run
abbrev pub code_in : Activities → Code
code_in a = code_of a.code.now

-- the point that they stand for
abbrev pub point_in : Activities → Point
point_in a = point_of (code_in a).variables a.slots (kept_in a)

-- what always holds
pub record AreActivities (a : Activities) : Type 0 where
  pub core : IsCore (code_in a) a.slots (kept_in a)
  pub processors : 1 ≤ length a.held.items

-- the code, and how many processors and slots there are
pub record AreOf (code : Code) (p s : ℕ) (a : Activities) : Type 0 where
  pub code_is : code_in a ≡ code
  pub processors : length a.held.items ≡ p
  pub slots : a.slots ≡ s

-- these stay
abbrev pub Stays : Activities → Activities → Type 0
Stays old new = AreOf (code_in old) (length old.held.items) old.slots new

-- It was done; or it can't be done, and nothing has changed.
abbrev pub Did : Bool → (Point → Point → Type 0) → Activities → Activities → Type 0
Did true Step old new = Step (point_in old) (point_in new)
Did false Step old new = (kept_in new ≡ kept_in old) × ((b : Point) → Step (point_in old) b → ⊥)

-- the frame of what a processor holds
abbrev pub frame_held : machine.Machine → Option Who → Option Frame
frame_held m None = None
frame_held m (Some u) = frame_of m u

-- the frame of what processor q holds at a point, if it holds anything
abbrev pub frame_at : ℕ → Point → Option Frame
frame_at q x = frame_held x.machine (x.machine.held q)

-- the frame of what stands in a place
abbrev pub frame_there : Option Standing → Option Frame
frame_there None = None
frame_there (Some a) = Some a.frame
