-- What `replay` and `upgrade` may write of a source text, an input and the text of a schedule.
use Rattle.std.specs.Prelude.{◌≡◌, ◌⊎◌, ℕ, false, List, Option, Some, Result, Ok, Err}
use Rattle.std.specs.Io.KnownBytes.{Appends}
use Rattle.ast.specs.Meaning.{seq}
use Rattle.ast.specs.Program.{ProgramTree}
use Rattle.machine.specs.Code.{Code}
use Rattle.replay.specs.Replayed.{GivesNone, HasStop, IsUpgrade}
use Rattle.activities.specs.Points.{Point}
use Rattle.replay.specs.Replays.{Replays}
use Rattle.schedules.specs.Schedules.{SchedText, Schedule}
use Rattle.record_writer.specs.Written.{AppendsPart}
use Rattle.command_output.specs.Outcomes.{status_of}
use Rattle.command_output.specs.Reading.{OfTexts}
use Rattle.command_output.specs.Status.{number_of}
use Rattle.command_output.specs.declared.fault.EngineFault.{EngineFault}
use Rattle.command_output.specs.declared.fault.EngineFault.TheVariants.{Memory, Writing}
use Rattle.command_output.specs.declared.outcomes.Outcome.{Outcome}
use Rattle.command_output.specs.declared.outcomes.Outcome.TheVariants.{Completed}
use Rattle.engines.specs.Engines.{Leaves, ShowsRun, WroteAs, WrotePart}
pub use Rattle.engines.specs.Prepared.{IsLine, WithCode, WithRun}
use Rattle.engines.specs.declared.made.Made.{Made}
use Rattle.engines.specs.declared.made.Made.TheVariants.{Text, Shown}

-- The run of a schedule leads the code to its end on the input, and what is shown is what the
-- sequential program prints and how it ends.
pub record IsReplayed (tree : ProgramTree) (code : Code) (input : List ℕ) (x : Schedule)
    (outcome : Outcome) (text : List ℕ) : Type 0 where
  pub point : Point
  pub replays : Replays code input x point
  pub ended : point.machine.ended ≡ Some (seq tree input).end
  pub run : ShowsRun false tree input outcome text

-- what `replay` may write
abbrev pub Replaying : (source input schedule : List ℕ) → Outcome → List ℕ → Type 0
Replaying source input schedule outcome text =
    WithRun source schedule (λ tree code x. IsReplayed tree code input x outcome text)
    ⊎ IsLine GivesNone source input schedule outcome text

-- The text is that of a schedule in which each pick is named, and which leads the code where the
-- one that is given leads it.
pub record IsUpgraded (code : Code) (input : List ℕ) (old : Schedule) (text : List ℕ) : Type 0 where
  pub new : Schedule
  pub upgrades : IsUpgrade code input old new
  pub written : SchedText new text

-- what `upgrade` may come to: a schedule's text for OUT, or what standard output has
abbrev pub Upgrading : (source input schedule : List ℕ) → Made → Type 0
Upgrading source input schedule (Text text) =
    WithRun source schedule (λ tree code old. IsUpgraded code input old text.items)
Upgrading source input schedule (Shown page) =
    IsLine HasStop source input schedule page.outcome page.text.items

-- the outcome of what `upgrade` comes to
abbrev pub upgrade_outcome : Made → Outcome
upgrade_outcome (Text text) = Completed
upgrade_outcome (Shown page) = page.outcome

-- Two writers grew by what `upgrade` comes to, the first one's bytes from `old` to `new`, the
-- other's from `before` to `after`: this one by a schedule's text, or the first by a page, and the
-- other not.
abbrev pub WritesUpgraded : Made → (old new before after : Option (List ℕ)) → Type 0
WritesUpgraded (Text text) old new before after = (new ≡ old) × Appends before after text.items
WritesUpgraded (Shown page) old new before after =
    Appends old new page.text.items × (after ≡ before)

-- the same of a beginning, of which something is missing
abbrev pub WritesPart : Made → (old new before after : Option (List ℕ)) → Type 0
WritesPart (Text text) old new before after = (new ≡ old) × AppendsPart before after text.items
WritesPart (Shown page) old new before after =
    AppendsPart old new page.text.items × (after ≡ before)

-- the writers grew by what `upgrade` may come to, and this is its outcome
pub record WroteUpgraded (allows : Made → Type 0) (old new before after : Option (List ℕ))
    (outcome : Outcome) : Type 0 where
  pub upgraded : Made
  pub allowed : allows upgraded
  pub is : outcome ≡ upgrade_outcome upgraded
  pub written : WritesUpgraded upgraded old new before after

-- the same, with the number of an outcome's status
abbrev pub WroteUpgradedAs : (Made → Type 0) → (old new before after : Option (List ℕ)) → ℕ → Type 0
WroteUpgradedAs allows old new before after status =
    (outcome : Outcome) × (status ≡ number_of (status_of outcome))
    × WroteUpgraded allows old new before after outcome

-- the writers grew by a beginning of what `upgrade` may come to
pub record WroteUpgradedPart (allows : Made → Type 0)
    (old new before after : Option (List ℕ)) : Type 0 where
  pub upgraded : Made
  pub allowed : allows upgraded
  pub written : WritesPart upgraded old new before after

-- What upgrading texts that were read comes to: an outcome with what is allowed written; part of it
-- where writing failed; nothing where memory was refused. No fault of reading comes of it.
abbrev pub UpgradeWorks : (Made → Type 0) → (old new before after : Option (List ℕ))
    → Result Outcome EngineFault → Type 0
UpgradeWorks allows old new before after (Ok outcome) =
    WroteUpgraded allows old new before after outcome
UpgradeWorks allows old new before after (Err (Writing e)) =
    WroteUpgradedPart allows old new before after
UpgradeWorks allows old new before after (Err Memory) = (new ≡ old) × (after ≡ before)
UpgradeWorks allows old new before after (Err _) = ⊥

-- what a fault leaves of two writers: part of what is allowed where writing failed, and otherwise
-- both as they were
abbrev pub LeavesBoth : EngineFault → (old new before after : Option (List ℕ)) → Type 0 → Type 0
LeavesBoth (Writing e) old new before after part = part
LeavesBoth fault old new before after part = (new ≡ old) × (after ≡ before)

-- ---- engines over readers of a source, an input and a schedule

-- `replay` ends with this status
abbrev pub ReplayEnds : (source input schedule old new : Option (List ℕ)) → ℕ → Type 0
ReplayEnds source input schedule old new status =
    OfTexts source input schedule
    (λ text given picks. WroteAs (Replaying text given picks) old new status)

-- or with this fault
abbrev pub ReplayFails : (source input schedule old new : Option (List ℕ)) → EngineFault → Type 0
ReplayFails source input schedule old new fault =
    Leaves fault old new
    (OfTexts source input schedule
    (λ text given picks. WrotePart (Replaying text given picks) old new))

-- `upgrade`, which has a writer more, whose bytes go from `before` to
-- `after`, ends with this status
abbrev pub UpgradeEnds : (source input schedule old new before after : Option (List ℕ)) → ℕ → Type 0
UpgradeEnds source input schedule old new before after status =
    OfTexts source input schedule (λ text given picks.
    WroteUpgradedAs (Upgrading text given picks) old new before after status)

-- or with this fault
abbrev pub UpgradeFails : (source input schedule old new before after : Option (List ℕ))
    → EngineFault → Type 0
UpgradeFails source input schedule old new before after fault =
    LeavesBoth fault old new before after
    (OfTexts source input schedule (λ text given picks.
    WroteUpgradedPart (Upgrading text given picks) old new before after))
