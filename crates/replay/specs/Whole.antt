-- What always holds of a core.
use Rattle.std.specs.Prelude.{◌≡◌, ◌+◌, ◌*◌, ◌≤◌, ℕ, Bool, true, false, List, length}
use Rattle.machine.specs.State.{Choice}
use Rattle.schedules.specs.Schedules.{Entry, IsSchedule, Schedule, bursts}
use Rattle.schedules.specs.Schedules.{shares, with_entries, with_entry, works}
use Rattle.schedules.specs.declared.entry.Version.TheVariants.{Second}
use Rattle.activities.specs.Activities.{AreActivities, AreOf, code_in, kept_in, point_in}
use Rattle.replay.specs.CoreView.{CoreView}
use Rattle.replay.specs.Making.{pick_of}
use Rattle.activities.specs.Points.{Moves, Picks, Point, Works, beginning}
use Rattle.replay.specs.Replays.{Replays}
use Rattle.replay.specs.Tallies.{Again, Tallies, steps}
use Rattle.activities.specs.declared.holding.Activities.{Activities}
use Rattle.replay.specs.declared.stepped.Tally.{Tally}

-- its parts fit each other
pub record AreParts (a : Activities) (x : Schedule) (t : Tally) : Type 0 where
  pub stand : AreActivities a
  pub are : AreOf (code_in a) x.processors x.slots a
  pub schedule : IsSchedule x
  pub version : x.version ≡ Second
  pub made : t.made ≤ 1024 * length x.entries
  pub again : t.again ≤ length x.entries

-- Its state is the replay of its schedule, which names each pick, on its code and input; and its
-- steps were counted.
pub record IsWhole (input : List ℕ) (a : Activities) (x : Schedule) (t : Tally) : Type 0 where
  pub parts : AreParts a x t
  pub replays : Replays (code_in a) input x (point_in a)
  pub tallies : Tallies Second (code_in a) x.slots (beginning (code_in a) input x.slots) x.entries
      (point_in a) t.made t.again

-- what a core of these parts is seen as
abbrev pub seen_as : List ℕ → Activities → Schedule → CoreView
seen_as input a x = record { code = code_in a; input = input; schedule = x; kept = kept_in a }

-- an entry's steps were counted
pub record Counted (e : Entry) (a b : Point) (t u : Tally) : Type 0 where
  pub parks : ℕ
  pub counts : Again a.machine b.machine parks
  pub made : u.made ≡ t.made + steps e.act
  pub again : u.again ≡ t.again + parks

-- Nothing has changed.
pub record IsSame (a : Activities) (x : Schedule) (t : Tally) (b : Activities)
    (y : Schedule) (u : Tally) : Type 0 where
  pub kept : kept_in b ≡ kept_in a
  pub schedule : y ≡ x
  pub tally : u ≡ t

-- A step was made, and its entry added.
pub record IsMore (e : Entry) (Step : Point → Point → Type 0) (a : Activities) (x : Schedule)
    (t : Tally) (b : Activities) (y : Schedule) (u : Tally) : Type 0 where
  pub step : Step (point_in a) (point_in b)
  pub schedule : y ≡ with_entry x e
  pub tally : Counted e (point_in a) (point_in b) t u

-- So many local instructions were made, and their entries added.
pub record IsWorked (q made : ℕ) (a : Activities) (x : Schedule) (t : Tally) (b : Activities)
    (y : Schedule) (u : Tally) : Type 0 where
  pub step : Works (code_in a) x.slots made (point_in a) q (point_in b)
  pub schedule : y ≡ with_entries x (bursts q made)
  pub counted : u.made ≡ t.made + made
  pub parked : u.again ≡ t.again

-- So many local instructions were made, and one entry added.
abbrev pub IsBurst : (q made : ℕ) → Activities → Schedule → Tally → Activities
    → Schedule → Tally → Type 0
IsBurst q made a x t b y u =
    IsMore (record { processor = q; act = works made })
    (λ c d. Works (code_in a) x.slots made c q d) a x t b y u

-- The step was made, or it can't be made and nothing has changed.
abbrev pub Entered : Bool → Entry → (Point → Point → Type 0) → Activities → Schedule
    → Tally → Activities → Schedule → Tally → Type 0
Entered true e Step a x t b y u = IsMore e Step a x t b y u
Entered false e Step a x t b y u = IsSame a x t b y u × ((c : Point) → Step (point_in a) c → ⊥)

-- the same of the shared step of what processor q holds
abbrev pub Shares : Bool → ℕ → Activities → Schedule → Tally → Activities
    → Schedule → Tally → Type 0
Shares did q a x t b y u =
    Entered did (record { processor = q; act = shares })
    (λ c d. Moves (code_in a) x.slots false c q d) a x t b y u

-- and of a pick of processor q
abbrev pub TakesUp : Bool → ℕ → Choice → Activities → Schedule → Tally → Activities
    → Schedule → Tally → Type 0
TakesUp did q k a x t b y u =
    Entered did (record { processor = q; act = pick_of k })
    (λ c d. Picks (code_in a) x.slots k c q d) a x t b y u
