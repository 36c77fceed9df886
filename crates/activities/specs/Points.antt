-- Where a run stands, and the steps that lead from there.
use Rattle.std.specs.Prelude.{◌≡◌, ◌⊎◌, ℕ, zero, suc, ◌+◌, ◌%◌, Bool, true}
use Rattle.std.specs.Prelude.{false, List, [], ◌∷◌, Option, Some, None}
use Rattle.ec_kernel.specs.View as kernel
use Rattle.ec_kernel.specs.View.{first_of, without, parked, advanced, restarted, new_kernel}
use Rattle.machine.specs.Code.{Code}
use Rattle.machine.specs.Frame.{Frame}
use Rattle.machine.specs.Local.{is_local}
use Rattle.machine.specs.State.{Active, Machine, CodeStep, Init, Wait, until_count}
use Rattle.machine.specs.State.{until_retired, Who, the_main, iteration, Choice}
use Rattle.machine.specs.State.{take_main, take_iteration, take_ticket, Takes}
use Rattle.machine.specs.View.{View, advancing, leaving, opening, stuck}
use Rattle.machine.specs.View.{most_events, view, trips_of, begin}
use Rattle.machine.specs.declared.code.Open.{Open}

-- ---- Beside the machine's state stands who waits and who became ready when: a kernel of
-- eventcounts, in which main has slot 0 and iteration k slot 1 + k mod s. No two open iterations
-- have one slot, since at most s follow one another.

-- a state of the machine, and the kernel beside it
pub record Point : Type 0 where
  pub machine : Machine
  pub order : kernel.View

-- an activity's slot in the kernel, where s iterations may be open
abbrev pub slot : ℕ → Who → ℕ
slot s the_main = 0
slot s (iteration k) = 1 + k % s

abbrev pub frame_in : Option (Active Frame) → Option Frame
frame_in None = None
frame_in (Some a) = Some a.frame

-- the frame of an activity that isn't over
abbrev pub frame_of : Machine → Who → Option Frame
frame_of m the_main = Some m.main
frame_of m (iteration k) = frame_in (m.iterations k)

-- what an activity is parked on, if it is
abbrev pub wait_of : Machine → Who → Option Wait
wait_of m the_main = m.waiting
wait_of m (iteration k) = m.parked k

-- the kernel with an activity parked on an event's count, or on that of the retired, event 0
abbrev pub waits : Wait → ℕ → kernel.View → kernel.View
waits (until_count e v) slot x = parked x e v slot
waits (until_retired v) slot x = parked x 0 v slot

-- the counts after a step of an activity that isn't parked by it
abbrev pub counted : View Frame Open → kernel.View → kernel.View
counted (advancing e g) x = advanced x e
counted (leaving xs) x = advanced x 0
counted (opening l g) x = restarted x
counted _ x = x

-- the kernel after a step: the activity was parked by it, or it wasn't
abbrev pub moved : Option Wait → View Frame Open → ℕ → kernel.View → kernel.View
moved (Some w) v slot x = waits w slot x
moved None v slot x = counted v x

-- one who is ready is taken up, or a ticket is drawn
abbrev pub taken : ℕ → Choice → kernel.View → kernel.View
taken s take_main x = record x { ready = without (slot s the_main) x.ready }
taken s (take_iteration k) x = record x { ready = without (slot s (iteration k)) x.ready }
taken s take_ticket x = record x { ticket = x.ticket + 1 }

-- what an activity does next, by its frame; it is stuck where it has none
abbrev pub view_in : Code → Option Frame → View Frame Open
view_in code None = stuck
view_in code (Some f) = view code f

-- whether what it does next is a local instruction
abbrev pub local_in : Code → Option Frame → Bool
local_in code None = false
local_in code (Some f) = is_local code.instructions f

-- ---- The steps.

-- Processor q makes a step of the activity that it holds, a local one or a shared one.
pub record Moves (code : Code) (s : ℕ) (local : Bool) (a : Point) (q : ℕ) (b : Point) : Type 0 where
  pub who : Who
  pub holds : a.machine.held q ≡ Some who
  pub kind : local_in code (frame_of a.machine who) ≡ local
  pub step : CodeStep code s a.machine q b.machine
  pub order : b.order
      ≡ moved (wait_of b.machine who) (view_in code (frame_of a.machine who)) (slot s who) a.order

-- Processor q, which holds nothing, takes this up.
pub record Picks (code : Code) (s : ℕ) (c : Choice) (a : Point) (q : ℕ) (b : Point) : Type 0 where
  pub going : a.machine.ended ≡ None
  pub idle : a.machine.held q ≡ None
  pub takes : Takes Frame Open (view code) trips_of (begin code) s c a.machine q b.machine
  pub order : b.order ≡ taken s c a.order

-- The rule of the first version: who became ready first, and a ticket only where nobody is ready.
abbrev pub ByRule : ℕ → kernel.View → Choice → Type 0
ByRule s x take_main = first_of x.ready ≡ Some (slot s the_main)
ByRule s x (take_iteration k) = first_of x.ready ≡ Some (slot s (iteration k))
ByRule s x take_ticket = x.ready ≡ []

-- Processor q makes so many local steps, one after another.
abbrev pub Works : Code → ℕ → ℕ → Point → ℕ → Point → Type 0
Works code s zero a q b = a ≡ b
Works code s (suc n) a q b = (x : Point) × Moves code s true a q x × Works code s n x q b

-- Processor q can make no local step.
abbrev pub NoLocal : Code → ℕ → Point → ℕ → Type 0
NoLocal code s a q = (b : Point) → Moves code s true a q b → ⊥

-- Processor q makes so many steps of what it holds, each a local or a shared one.
abbrev pub Steps : Code → ℕ → ℕ → Point → ℕ → Point → Type 0
Steps code s zero a q b = a ≡ b
Steps code s (suc n) a q b =
    (x : Point) × (local : Bool) × Moves code s local a q x × Steps code s n x q b

-- Processor q makes a step of what it holds; or, if iterations may be begun, it takes the next
-- ticket where nothing is ready.
abbrev pub Acts : (begins : Bool) → Code → ℕ → Point → ℕ → Point → Type 0
Acts begins code s a q b =
    ((local : Bool) × Moves code s local a q b)
    ⊎ ((begins ≡ true) × (a.order.ready ≡ []) × Picks code s take_ticket a q b)

-- Processor q does so much, one after another.
abbrev pub Proceeds : (begins : Bool) → Code → ℕ → ℕ → Point → ℕ → Point → Type 0
Proceeds begins code s zero a q b = a ≡ b
Proceeds begins code s (suc n) a q b =
    (x : Point) × Acts begins code s a q x × Proceeds begins code s n x q b

-- Main is ready, and nothing else has happened.
abbrev pub at_first : ℕ → kernel.View
at_first s = record (new_kernel (1 + s) (1 + most_events)) { ready = 0 ∷ []; free = [] }

-- where every run begins: main alone, ready
abbrev pub beginning : Code → List ℕ → ℕ → Point
beginning code input s = record { machine = Init code input; order = at_first s }
