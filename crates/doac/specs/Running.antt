-- What `run` reads and writes.
use Rattle.std.specs.Prelude.{◌≡◌, ℕ, List, Option, Some, None, Result, Ok, Err}
use Rattle.std.specs.Prelude.{Bool, true, false, ◌||◌, is_some, option_map}
use Rattle.command_output.specs.declared.fault.EngineFault.{EngineFault}
use Rattle.command_output.specs.declared.fault.EngineFault.TheVariants as faults
use Rattle.command_output.specs.declared.outcomes.Outcome.{Outcome}
use Rattle.command_output.specs.declared.status.Status.{Status}
use Rattle.engines.specs.declared.given.Wants.{Wants}
use Rattle.threaded.specs.Running.{Running, WritesText, text_of}
use Rattle.threaded.specs.Streaming.{StreamsRun}
use Rattle.threaded.specs.declared.ran.Ran.{Ran}
use Rattle.threaded.specs.declared.ran.Ran.TheVariants as ran
use Rattle.named_files.specs.Deeds.{Deed}
use Rattle.doac.specs.Deeds.{GivesFirst, ReadsGiven}
use Rattle.doac.specs.Statuses.{exit_of}
use Rattle.command_line.specs.declared.command.Threaded.{Threaded}

-- what is wanted of a run
abbrev pub wants_of : Threaded → Wants
wants_of t = record {
  processors = t.processors;
  slots = t.slots;
  store = t.store;
  schedule = is_some t.schedule;
  tally = t.tally;
}

-- the text of the schedule of what came of a run, if it has one
abbrev pub schedule_of : Ran → Option (List ℕ)
schedule_of (ran.Whole whole) = text_of whole.schedule
schedule_of _ = None

-- What came of a run is shown on standard output: of one that was given up for want of memory the
-- records that had gone out, and of one that there isn't nothing.
abbrev pub ShowsRan : Ran → (old new : Option (List ℕ)) → Result Outcome EngineFault → Type 0
ShowsRan (ran.Refused page) old new result =
    WritesText page.text.items (Ok page.outcome) old new result
ShowsRan (ran.Whole whole) old new result =
    WritesText whole.page.text.items (Ok whole.page.outcome) old new result
ShowsRan (ran.Memory output) old new result =
    WritesText output.items (Err faults.Memory) old new result
ShowsRan ran.OutOfRange old new result = (result ≡ Err faults.OutOfRange) × (new ≡ old)
ShowsRan (ran.NotStarted failure) old new result = (result ≡ Err faults.NotStarted) × (new ≡ old)
ShowsRan ran.Stuck old new result = (result ≡ Err faults.Stuck) × (new ≡ old)

-- its schedule goes to a file first, if there are both
abbrev pub WritesFirst : (onto schedule : Option (List ℕ)) → (before after : Option (List Deed))
    → (old new : Option (List ℕ)) → Status → Type 0 → Type 0
WritesFirst (Some onto) (Some schedule) before after old new status rest =
    GivesFirst onto schedule before after old new status rest
WritesFirst (Some onto) None before after old new status rest = (after ≡ before) × rest
WritesFirst None schedule before after old new status rest = (after ≡ before) × rest

-- What came of a run is shown on standard output, as `Shows` says, and this is the status of that.
pub record Shown (Shows : (old new : Option (List ℕ)) → Result Outcome EngineFault → Type 0)
    (old new : Option (List ℕ)) (status : Status) : Type 0 where
  pub result : Result Outcome EngineFault
  pub shows : Shows old new result
  pub is : status ≡ exit_of result

-- The schedule of what came of a run goes to its file, if there are both; only where it went there
-- is what came of the run shown.
abbrev pub WritesRun : (onto schedule : Option (List ℕ))
    → (Shows : (old new : Option (List ℕ)) → Result Outcome EngineFault → Type 0)
    → (before after : Option (List Deed)) → (old new : Option (List ℕ)) → Status → Type 0
WritesRun onto schedule Shows before after old new status =
    WritesFirst onto schedule before after old new status (Shown Shows old new status)

-- what may come of a source and an input is written
pub record EndsRecord (t : Threaded) (source input : List ℕ) (before after : Option (List Deed))
    (old new : Option (List ℕ)) (status : Status) : Type 0 where
  pub came : Ran
  pub allowed : Running source input (wants_of t) came
  pub written : WritesRun (option_map (λ o. o.now) t.schedule) (schedule_of came)
      (ShowsRan came) before after old new status

-- the records are written while the run goes on, and what follows them; and the status is that of
-- what it came to
abbrev pub EndsStream : Threaded → (source input : List ℕ) → (old new : Option (List ℕ))
    → Status → Type 0
EndsStream t source input old new status =
    Shown (StreamsRun source input (wants_of t)) old new status

-- what a run writes: when it has ended, where its record is kept, and otherwise while it goes on
abbrev pub EndsAs : (recorded : Bool) → Threaded → (source input : List ℕ)
    → (before after : Option (List Deed)) → (old new : Option (List ℕ)) → Status → Type 0
EndsAs true t source input before after old new status =
    EndsRecord t source input before after old new status
EndsAs false t source input before after old new status =
    (after ≡ before) × EndsStream t source input old new status

-- the record is kept where the schedule is wanted, or figures are
abbrev pub EndsRun : Threaded → (source input : List ℕ) → (before after : Option (List Deed))
    → (old new : Option (List ℕ)) → Status → Type 0
EndsRun t source input before after old new status =
    EndsAs (is_some t.schedule || t.tally) t source input before after old new status

-- the source is read, then the input, and then they are run
abbrev pub RunsRead : Threaded → (before after : Option (List Deed))
    → (old new : Option (List ℕ)) → Status → Type 0
RunsRead t before after old new status =
    ReadsGiven t.source.now (option_map (λ i. i.now) t.input) before after old new status
    (λ done text given.
    EndsRun t text given done after old new status)
