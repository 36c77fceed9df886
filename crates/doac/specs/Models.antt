-- What `model` reads and writes.
use Rattle.std.specs.Prelude.{◌≡◌, ℕ, List, Option, None, Result, Ok}
use Rattle.std.specs.Prelude.{Err, IfErr, IfOk, is_some, option_map}
use Rattle.named_files.specs.Deeds.{Deed}
use Rattle.model_time.specs.declared.pace.Pace.{Pace}
use Rattle.modelled.specs.Modelling.{IsEarly, Modelling, text_of}
use Rattle.modelled.specs.declared.modelling.Timing.{Timing}
use Rattle.command_output.specs.declared.fault.EngineFault.{EngineFault}
use Rattle.command_output.specs.declared.outcomes.Outcome.{Outcome}
use Rattle.command_output.specs.declared.status.Status.{Status}
use Rattle.threaded.specs.Running.{WritesText}
use Rattle.doac.specs.Deeds.{ReadsGiven}
use Rattle.doac.specs.Running.{WritesRun}
use Rattle.command_line.specs.declared.command.Modelled.{Modelled}

-- how a run is wanted
abbrev pub pace_of : Modelled → Pace
pace_of m = record {
  processors = m.processors;
  slots = m.slots;
  most = m.most;
  schedule = is_some m.schedule;
}

-- what may come of a source and an input, or nothing
abbrev pub MayCome : Pace → (source input : List ℕ) → Result Timing EngineFault → Type 0
MayCome pace source input came = IfOk came (Modelling pace source input) × IfErr came IsEarly

-- the text of the schedule of what came of a run, if it has one
abbrev pub schedule_of : Result Timing EngineFault → Option (List ℕ)
schedule_of (Ok t) = text_of t.schedule
schedule_of (Err fault) = None

-- what came of a run is shown on standard output; of none nothing is
abbrev pub ShowsTiming : Result Timing EngineFault → (old new : Option (List ℕ))
    → Result Outcome EngineFault → Type 0
ShowsTiming (Ok t) old new result = WritesText t.page.text.items (Ok t.page.outcome) old new result
ShowsTiming (Err fault) old new result = (result ≡ Err fault) × (new ≡ old)

-- what may come of a source and an input is written
pub record EndsModel (m : Modelled) (source input : List ℕ) (before after : Option (List Deed))
    (old new : Option (List ℕ)) (status : Status) : Type 0 where
  pub came : Result Timing EngineFault
  pub allowed : MayCome (pace_of m) source input came
  pub written : WritesRun (option_map (λ o. o.now) m.schedule) (schedule_of came)
      (ShowsTiming came) before after old new status

-- the source is read, then the input, and then they are run
abbrev pub ModelsRead : Modelled → (before after : Option (List Deed))
    → (old new : Option (List ℕ)) → Status → Type 0
ModelsRead m before after old new status =
    ReadsGiven m.source.now (option_map (λ i. i.now) m.input) before after old new status
    (λ done text given.
    EndsModel m text given done after old new status)
