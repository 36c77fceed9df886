-- What a schedule does: from the state at the beginning its entries in order lead to others.
use Rattle.std.specs.Prelude.{◌≡◌, ℕ, ◌≤◌, ◌^◌, length, ◌⊎◌, false, List, [], ◌∷◌}
use Rattle.machine.specs.Code.{Code}
use Rattle.machine.specs.State.{Machine, CodeRun, Init, Choice, take_main}
use Rattle.machine.specs.State.{take_iteration, take_ticket, AreSizes}
use Rattle.activities.specs.Points.{Point, ByRule, Moves, Picks, Works, beginning}
use Rattle.schedules.specs.Schedules.{IsSchedule, Act, works, shares, picks_main}
use Rattle.schedules.specs.Schedules.{picks, takes_ticket, Entry, Schedule}
use Rattle.schedules.specs.declared.entry.Version.{Version}
use Rattle.schedules.specs.declared.entry.Version.TheVariants.{First, Second}

-- What processor q does in an entry.
abbrev pub Does : Version → Code → ℕ → Act → Point → ℕ → Point → Type 0
Does v code s (works n) a q b = Works code s n a q b
Does First code s shares a q b =
    Moves code s false a q b ⊎ ((c : Choice) × ByRule s a.order c × Picks code s c a q b)
Does Second code s shares a q b = Moves code s false a q b
Does v code s picks_main a q b = Picks code s take_main a q b
Does v code s (picks k) a q b = Picks code s (take_iteration k) a q b
Does v code s takes_ticket a q b = Picks code s take_ticket a q b

-- Entries lead from one point to another.
abbrev pub Leads : Version → Code → ℕ → Point → List Entry → Point → Type 0
Leads v code s a [] b = a ≡ b
Leads v code s a (e ∷ es) b =
    (x : Point) × Does v code s e.act a e.processor x × Leads v code s x es b

-- The schedule's entries lead from the beginning to this point.
pub record Replays (code : Code) (input : List ℕ) (x : Schedule) (b : Point) : Type 0 where
  pub leads : Leads x.version code x.slots (beginning code input x.slots) x.entries b

-- A schedule of the second version leads to this state. It can be written where each iteration that
-- is picked has a number of 128 bits.
pub record IsReplayed (code : Code) (input : List ℕ) (p s : ℕ) (m : Machine)
    (writable : Type 0) : Type 0 where
  pub schedule : Schedule
  pub version : schedule.version ≡ Second
  pub processors : schedule.processors ≡ p
  pub slots : schedule.slots ≡ s
  pub point : Point
  pub replays : Replays code input schedule point
  pub is : point.machine ≡ m
  pub written : writable → IsSchedule schedule

-- The last state of every run is the replay of a schedule of the second version; a run of at most
-- 2^128 steps is that of one that can be written.
abbrev pub EveryRun : Type 0
EveryRun =
    (code : Code) (input : List ℕ) (p s : ℕ) (qs : List ℕ) (m : Machine) → AreSizes p s
    → CodeRun code s p (Init code input) qs m
    → IsReplayed code input p s m (length qs ≤ 2 ^ 128)

-- What a schedule leads to is the last state of a run of its processors.
abbrev pub IsRun : Type 0
IsRun =
    (code : Code) (input : List ℕ) (x : Schedule) (b : Point) → IsSchedule x
    → Replays code input x b
    → (qs : List ℕ) × CodeRun code x.slots x.processors (Init code input) qs b.machine
