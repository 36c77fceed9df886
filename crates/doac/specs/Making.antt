-- What `upgrade` and `timeline` do: a text is made of a source, an input and a schedule.
use Rattle.std.specs.Prelude.{◌≡◌, ◌⊎◌, ℕ, List, [], ◌∷◌, Option}
use Rattle.engines.specs.Schedules.{Upgrading}
use Rattle.engines.specs.Timeline.{Times}
use Rattle.engines.specs.declared.made.Made.{Made}
use Rattle.engines.specs.declared.made.Made.TheVariants.{Text, Shown}
use Rattle.named_files.specs.Deeds.{Deed}
use Rattle.command_output.specs.declared.status.Status.{Status}
use Rattle.command_output.specs.declared.status.Status.TheVariants as statuses
use Rattle.doac.specs.Deeds.{GivesFile, ReadsTexts, UnlessRead}
use Rattle.doac.specs.Statuses.{Ends, IsPage}
use Rattle.doac.specs.declared.making.Making.{Making}
use Rattle.doac.specs.declared.making.Making.TheVariants.{Schedule, Picture}

-- what making it may come to
abbrev pub Allows : Making → (source input schedule : List ℕ) → Made → Type 0
Allows Schedule source input schedule made = Upgrading source input schedule made
Allows Picture source input schedule made = Times source input schedule made

-- what making a text comes to is written: the text to OUT alone, and why there is none to standard
-- output alone
abbrev pub Delivers : (out : List ℕ) → Made → (before after : Option (List Deed))
    → (old new : Option (List ℕ)) → Status → Type 0
Delivers out (Text text) before after old new status =
    GivesFile out text.items before after status × (new ≡ old)
Delivers out (Shown page) before after old new status =
    (after ≡ before) × Ends (IsPage page) old new status

-- what is made of these texts is written; for want of memory nothing is
abbrev pub EndsMaking : Making → (out source input schedule : List ℕ)
    → (before after : Option (List Deed)) → (old new : Option (List ℕ)) → Status → Type 0
EndsMaking making out source input schedule before after old new status =
    ((after ≡ before) × (new ≡ old) × (status ≡ statuses.NoMemory))
    ⊎ ((came : Made) × Allows making source input schedule came
    × Delivers out came before after old new status)

-- the source is read, then the input, then the schedule, and it is made of them, where OUT is none
-- of them, as is found out first
abbrev pub MakesFiles : Making → (source input schedule out : List ℕ)
    → (before after : Option (List Deed)) → (old new : Option (List ℕ)) → Status → Type 0
MakesFiles making source input schedule out before after old new status =
    UnlessRead out (source ∷ input ∷ schedule ∷ []) before after old new status (λ told.
    ReadsTexts source input schedule told after old new status
    (λ done text given picks. EndsMaking making out text given picks done after old new status))
