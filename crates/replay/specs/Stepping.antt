-- What the calls of a core come to.
use Rattle.std.specs.Prelude.{◌≡◌, ◌<◌, ◌⊎◌, ⊤, ℕ, true, false, Option, Some, None}
use Rattle.ast.specs.declared.fault.End.{End}
use Rattle.machine.specs.Code.{Code}
use Rattle.machine.specs.Frame.{Frame}
use Rattle.machine.specs.State.{Choice, take_ticket, CodeStep, Machine, AreSizes}
use Rattle.schedules.specs.Schedules.{bursts, works, shares}
use Rattle.activities.specs.Activities.{frame_at}
use Rattle.replay.specs.CoreView.{CoreView, IsAfter, IsFurther, point_at}
use Rattle.replay.specs.Making.{pick_of}
use Rattle.activities.specs.Points.{Point, ByRule, Moves, NoLocal, Picks, Works, local_in}
use Rattle.replay.specs.declared.stepped.CoreRefusal.{CoreRefusal}
use Rattle.replay.specs.declared.stepped.CoreRefusal.TheVariants as refusals
use Rattle.replay.specs.declared.stepped.HandIn.{HandIn}
use Rattle.replay.specs.declared.stepped.HandIn.TheVariants as hand_ins
use Rattle.replay.specs.declared.stepped.Stepped.{Stepped}
use Rattle.replay.specs.declared.stepped.Stepped.TheVariants.{Went, Idle, Ended}

-- the run has ended
abbrev pub HasEnded : CoreView → Type 0
HasEnded x = (e : End) × ((point_at x).machine.ended ≡ Some e)

-- the run hasn't ended
abbrev pub IsGoing : CoreView → Type 0
IsGoing x = (point_at x).machine.ended ≡ None

-- the run goes on, and there is a processor q: what memory may be wanted for
abbrev pub MayTry : CoreView → ℕ → Type 0
MayTry x q = IsGoing x × (q < x.schedule.processors)

-- the iteration that begins
abbrev pub begun_by : Choice → ℕ → Option ℕ
begun_by take_ticket k = Some k
begun_by _ k = None

-- processor q has picked, and the pick is its entry
pub record Picked (x : CoreView) (q : ℕ) (c : Choice) (ticket : Option ℕ)
    (y : CoreView) : Type 0 where
  pub after : IsAfter x (record { processor = q; act = pick_of c }) y
  pub step : Picks x.code x.schedule.slots c (point_at x) q (point_at y)
  pub iteration : ticket ≡ begun_by c (point_at x).machine.ticket

-- it has made a shared step of what it holds
pub record Shared (x : CoreView) (q : ℕ) (ticket : Option ℕ) (y : CoreView) : Type 0 where
  pub after : IsAfter x (record { processor = q; act = shares }) y
  pub step : Moves x.code x.schedule.slots false (point_at x) q (point_at y)
  pub iteration : ticket ≡ None

-- it has neither a shared step nor a pick
pub record IsStuck (x : CoreView) (q : ℕ) : Type 0 where
  pub still : (b : Point) → Moves x.code x.schedule.slots false (point_at x) q b → ⊥
  pub idle : (c : Choice) (b : Point) → Picks x.code x.schedule.slots c (point_at x) q b → ⊥

-- A shared step of processor q, which picks by the rule where it holds nothing.
abbrev pub Steps : CoreView → ℕ → Stepped → CoreView → Type 0
Steps x q (Went ticket) y =
    Shared x q ticket y
    ⊎ ((c : Choice) × ByRule x.schedule.slots (point_at x).order c × Picked x q c ticket y)
Steps x q Idle y = (y ≡ x) × IsGoing x × (q < x.schedule.processors → IsStuck x q)
Steps x q Ended y = (y ≡ x) × HasEnded x

-- ---- that a run which hasn't ended goes on

-- a local instruction of what processor q holds stands next
abbrev pub HasLocal : CoreView → ℕ → Type 0
HasLocal x q = local_in x.code (frame_at q (point_at x)) ≡ true

-- it can make a shared step of what it holds
abbrev pub HasShared : CoreView → ℕ → Type 0
HasShared x q = (b : Point) × Moves x.code x.schedule.slots false (point_at x) q b

-- it can take something up by the rule
abbrev pub HasPick : CoreView → ℕ → Type 0
HasPick x q =
    (c : Choice) × (b : Point) × ByRule x.schedule.slots (point_at x).order c
    × Picks x.code x.schedule.slots c (point_at x) q b

-- one of these three is so
abbrev pub CanGo : CoreView → ℕ → Type 0
CanGo x q = HasLocal x q ⊎ HasShared x q ⊎ HasPick x q

-- processor q is there, and the machine has a step of it to this state
abbrev pub MayStep : CoreView → ℕ → Machine → Type 0
MayStep x q n =
    (q < x.schedule.processors) × CodeStep x.code x.schedule.slots (point_at x).machine q n

-- Each processor of which the machine has a step can go on.
abbrev pub KeepsGoing : CoreView → Type 0
KeepsGoing x = (q : ℕ) (n : Machine) → MayStep x q n → CanGo x q

-- the answer says that a step was made
abbrev pub IsWent : Stepped → Type 0
IsWent (Went ticket) = ⊤
IsWent _ = ⊥

-- Where the machine has a step of processor q, a local instruction of it stands next, or a step was
-- made.
abbrev pub WentOrLocal : CoreView → ℕ → Stepped → Type 0
WentOrLocal x q answer = (n : Machine) → MayStep x q n → HasLocal x q ⊎ IsWent answer

-- A pick of processor q.
abbrev pub PicksUp : CoreView → ℕ → Choice → Stepped → CoreView → Type 0
PicksUp x q c (Went ticket) y = Picked x q c ticket y
PicksUp x q c Idle y =
    (y ≡ x) × IsGoing x × (q < x.schedule.processors → (b : Point)
    → Picks x.code x.schedule.slots c (point_at x) q b → ⊥)
PicksUp x q c Ended y = (y ≡ x) × HasEnded x

-- processor q holds an activity with this frame, in this code
abbrev pub IsFrom : CoreView → ℕ → Code → Frame → Type 0
IsFrom x q code from = (frame_at q (point_at x) ≡ Some from) × (x.code ≡ code)

-- local work of so many instructions was handed in
pub record HandsIn (x : CoreView) (q : ℕ) (code : Code) (from : Frame) (made : ℕ)
    (y : CoreView) : Type 0 where
  pub going : IsGoing x
  pub is_from : IsFrom x q code from
  pub after : IsAfter x (record { processor = q; act = works made }) y
  pub step : Works x.code x.schedule.slots made (point_at x) q (point_at y)

-- Local work of any length was handed in, in as many entries as it takes.
pub record HandsInAll (x : CoreView) (q : ℕ) (code : Code) (from : Frame) (made : ℕ)
    (y : CoreView) : Type 0 where
  pub going : IsGoing x
  pub is_from : IsFrom x q code from
  pub after : IsFurther x (bursts q made) y
  pub step : Works x.code x.schedule.slots made (point_at x) q (point_at y)

-- So many local instructions were made in place, in as many entries as they take.
pub record Labours (x : CoreView) (q made : ℕ) (y : CoreView) : Type 0 where
  pub after : IsFurther x (bursts q made) y
  pub step : Works x.code x.schedule.slots made (point_at x) q (point_at y)

-- no local instruction of what processor q holds stands next
abbrev pub IsDone : CoreView → ℕ → Type 0
IsDone x q = NoLocal x.code x.schedule.slots (point_at x) q

-- why local work isn't taken: the run had ended; the processor doesn't hold that frame, in that
-- code; or, where neither is so, memory was refused
abbrev pub CannotHandIn : CoreView → ℕ → Code → Frame → HandIn → Type 0
CannotHandIn x q code from hand_ins.Ended = HasEnded x
CannotHandIn x q code from hand_ins.Stranger = IsGoing x × (IsFrom x q code from → ⊥)
CannotHandIn x q code from hand_ins.Memory = IsGoing x × IsFrom x q code from

-- no core has so many processors and slots
abbrev pub NoCore : ℕ → ℕ → CoreRefusal → Type 0
NoCore p s refusals.Memory = AreSizes p s
NoCore p s refusals.OutOfRange = AreSizes p s → ⊥
