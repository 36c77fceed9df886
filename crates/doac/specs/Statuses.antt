-- Exit statuses, and what is written to standard output.
use Rattle.std.specs.Prelude.{◌≡◌, ◌⊎◌, ℕ, Bool, true, false, List, Option, Result, Ok, Err}
use Rattle.command_output.specs.Outcomes.{fault_status, status_of}
use Rattle.command_output.specs.declared.fault.EngineFault.{EngineFault}
use Rattle.command_output.specs.declared.outcomes.Outcome.{Outcome}
use Rattle.command_output.specs.declared.page.Page.{Page}
use Rattle.command_output.specs.declared.status.Status.{Status}
use Rattle.command_output.specs.declared.status.Status.TheVariants as statuses
use Rattle.engines.specs.Engines.{Streaming, Works}
use Rattle.engines.specs.Lists.{WritesList}
use Rattle.engines.specs.Schedules.{Replaying}
use Rattle.states.specs.Shown.{StatesStream}

-- the exit status of what work on texts comes to
abbrev pub exit_of : Result Outcome EngineFault → Status
exit_of (Ok outcome) = status_of outcome
exit_of (Err fault) = fault_status fault

-- Work on texts wrote to standard output what its definition says, a beginning of that where
-- writing failed, or nothing for want of memory; and the status is that of what it came to.
pub record Ends (allows : Outcome → List ℕ → Type 0) (old new : Option (List ℕ))
    (status : Status) : Type 0 where
  pub came : Result Outcome EngineFault
  pub works : Works allows old new came
  pub is : status ≡ exit_of came

-- `seq` wrote its records to standard output while it ran, and then what follows them, or a
-- beginning of that where writing failed or memory was refused; and the status is that of what it
-- came to
pub record EndsSeq (store : Bool) (source input : List ℕ) (old new : Option (List ℕ))
    (status : Status) : Type 0 where
  pub came : Result Outcome EngineFault
  pub streams : Streaming store source input old new came
  pub is : status ≡ exit_of came

-- loops were listed on standard output, with what `--why` adds or without, and the status is
-- that of what it came to
pub record EndsList (why : Bool) (source : List ℕ) (old new : Option (List ℕ))
    (status : Status) : Type 0 where
  pub came : Result Outcome EngineFault
  pub writes : WritesList why source old new came
  pub is : status ≡ exit_of came

-- what `replay` writes, or with its states
abbrev pub WritesReplay : (states : Bool) → (source input schedule : List ℕ)
    → (old new : Option (List ℕ)) → Result Outcome EngineFault → Type 0
WritesReplay false source input schedule old new came =
    Works (Replaying source input schedule) old new came
WritesReplay true source input schedule old new came =
    StatesStream source input schedule old new came

-- it was written, and the status is that of what it came to
pub record EndsReplay (states : Bool) (source input schedule : List ℕ) (old new : Option (List ℕ))
    (status : Status) : Type 0 where
  pub came : Result Outcome EngineFault
  pub writes : WritesReplay states source input schedule old new came
  pub is : status ≡ exit_of came

-- the text and the outcome are a page's
abbrev pub IsPage : Page → Outcome → List ℕ → Type 0
IsPage page outcome text = (outcome ≡ page.outcome) × (text ≡ page.text.items)

-- the status of a text that was printed: 0, or that of writing
abbrev pub OfPrint : Status → Type 0
OfPrint status = (status ≡ statuses.Done) ⊎ (status ≡ statuses.FileFailed)
