-- What each command does: which files it reads, in which order, what it writes where, and its exit
-- status.
use Rattle.std.specs.Prelude.{◌≡◌, ℕ, Bool, List, Option, option_map}
use Rattle.command_output.specs.declared.outcomes.Outcome.{Outcome}
use Rattle.command_output.specs.declared.status.Status.{Status}
use Rattle.engines.specs.Coded.{ShowsCode}
use Rattle.engines.specs.Engines.{Checks}
use Rattle.named_files.specs.Deeds.{Deed}
use Rattle.doac.specs.Deeds.{ReadsFile, ReadsGiven, ReadsTexts, UnlessOnto}
use Rattle.doac.specs.Making.{MakesFiles}
use Rattle.doac.specs.Models.{ModelsRead}
use Rattle.doac.specs.Pictures.{DrawsFile}
use Rattle.doac.specs.Running.{RunsRead}
use Rattle.doac.specs.Statuses.{Ends, EndsList, EndsReplay, EndsSeq, OfPrint}
use Rattle.doac.specs.declared.making.Making.TheVariants.{Schedule, Picture}
use Rattle.command_line.specs.declared.command.Command.{Command}
use Rattle.command_line.specs.declared.command.Command.TheVariants.{Check, ListLoops, ShowCode}
use Rattle.command_line.specs.declared.command.Command.TheVariants.{Seq, Run, Model, Replay}
use Rattle.command_line.specs.declared.command.Command.TheVariants.{Upgrade, Draw, Timeline}
use Rattle.command_line.specs.declared.command.Command.TheVariants.{Explain, ExplainSerial}
use Rattle.command_line.specs.declared.command.Modelled.{Modelled}
use Rattle.command_line.specs.declared.command.Threaded.{Threaded}

-- the source is read, and what is allowed of it is written
abbrev pub OnSource : (List ℕ → Outcome → List ℕ → Type 0) → (source : List ℕ)
    → (before after : Option (List Deed)) → (old new : Option (List ℕ)) → Status → Type 0
OnSource allows source before after old new status =
    ReadsFile source before after old new status
    (λ done text. (after ≡ done) × Ends (allows text) old new status)

-- the source is read, and its loops are listed, with what `--why` adds or without
abbrev pub ListsFile : (why : Bool) → (source : List ℕ) → (before after : Option (List Deed))
    → (old new : Option (List ℕ)) → Status → Type 0
ListsFile why source before after old new status =
    ReadsFile source before after old new status
    (λ done text. (after ≡ done) × EndsList why text old new status)

-- the source is read, then the input, and the command ends so on them
abbrev pub OnInput : (List ℕ → List ℕ → Option (List ℕ) → Option (List ℕ) → Status → Type 0)
    → (source : List ℕ) → (input : Option (List ℕ)) → (before after : Option (List Deed))
    → (old new : Option (List ℕ)) → Status → Type 0
OnInput ends source input before after old new status =
    ReadsGiven source input before after old new status
    (λ done text given. (after ≡ done) × ends text given old new status)

-- the source is read, then the input, then the schedule, and they are replayed; the states are
-- shown if they are wanted
abbrev pub Replays : (states : Bool) → (source input schedule : List ℕ)
    → (before after : Option (List Deed)) → (old new : Option (List ℕ)) → Status → Type 0
Replays states source input schedule before after old new status =
    ReadsTexts source input schedule before after old new status
    (λ done text given picks. (after ≡ done) × EndsReplay states text given picks old new status)

-- a program is run in threads, where the file for the schedule, if one is named, is none of those
-- that are read, as is found out first
abbrev pub RunsFiles : Threaded → (before after : Option (List Deed))
    → (old new : Option (List ℕ)) → Status → Type 0
RunsFiles t before after old new status =
    UnlessOnto (option_map (λ o. o.now) t.schedule) t.source.now (option_map (λ i. i.now) t.input)
    before after old new status (λ told. RunsRead t told after old new status)

-- the same of a run in model time
abbrev pub ModelsFiles : Modelled → (before after : Option (List Deed))
    → (old new : Option (List ℕ)) → Status → Type 0
ModelsFiles m before after old new status =
    UnlessOnto (option_map (λ o. o.now) m.schedule) m.source.now (option_map (λ i. i.now) m.input)
    before after old new status (λ told. ModelsRead m told after old new status)

-- What a command does. What had been done with files is `before`, and in the end `after`; standard
-- output had `old`, and in the end has `new`; `status` is the exit status. `explain` does nothing
-- with files.
abbrev pub Obeys : Command → (before after : Option (List Deed)) → (old new : Option (List ℕ))
    → Status → Type 0
Obeys (Check source) before after old new status =
    OnSource Checks source.now before after old new status
Obeys (ListLoops source why) before after old new status =
    ListsFile why source.now before after old new status
Obeys (ShowCode source) before after old new status =
    OnSource ShowsCode source.now before after old new status
Obeys (Seq source input store) before after old new status =
    OnInput (EndsSeq store) source.now (option_map (λ i. i.now) input) before after old new status
Obeys (Run t) before after old new status = RunsFiles t before after old new status
Obeys (Model m) before after old new status = ModelsFiles m before after old new status
Obeys (Replay files states) before after old new status =
    Replays states files.source.now files.input.now files.schedule.now before after old new status
Obeys (Upgrade files out) before after old new status =
    MakesFiles Schedule files.source.now files.input.now files.schedule.now out.now
    before after old new status
Obeys (Draw drawing) before after old new status = DrawsFile drawing before after old new status
Obeys (Timeline files out) before after old new status =
    MakesFiles Picture files.source.now files.input.now files.schedule.now out.now
    before after old new status
Obeys (Explain number) before after old new status = (after ≡ before) × OfPrint status
Obeys (ExplainSerial reason) before after old new status = (after ≡ before) × OfPrint status
