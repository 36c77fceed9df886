-- What is written of an upgrade.
use Rattle.std.proofs.Common.{◌≡◌, ℕ, List, Option, Result, Ok, Err, IfOk, IfErr, subst, sym}
use Rattle.command_output.specs.Outcomes.{IsWriting, status_of}
use Rattle.command_output.specs.Reading.{AreGiven, Gives, OfTexts}
use Rattle.command_output.specs.Status.{number_of}
use Rattle.command_output.specs.declared.fault.EngineFault.{EngineFault}
use Rattle.command_output.specs.declared.fault.EngineFault.TheVariants.{Source, Input, Schedule, Writing, Memory, OutOfRange, NotStarted, Stuck}
use Rattle.command_output.specs.declared.outcomes.Outcome.{Outcome}
use Rattle.command_output.specs.declared.texts.Texts.{Texts}
use Rattle.engines.specs.Schedules.{LeavesBoth, UpgradeWorks, Upgrading, WritesPart, WritesUpgraded, WroteUpgradedAs, WroteUpgradedPart, upgrade_outcome}
use Rattle.engines.specs.declared.made.Made.{Made}

pub of_written : (allows : Made → Type 0) (made : Made) (old new before after : Option (List ℕ)) (r : Result Outcome EngineFault) → allows made
    → IfOk r (λ outcome. (outcome ≡ upgrade_outcome made) × WritesUpgraded made old new before after)
    → IfErr r (λ fault. IsWriting fault × WritesPart made old new before after) → UpgradeWorks allows old new before after r
of_written allows made old new before after (Ok outcome) allowed ok err = record { upgraded = made; allowed = allowed; is = ok.0; written = ok.1 }
of_written allows made old new before after (Err (Writing e)) allowed ok err = record { upgraded = made; allowed = allowed; written = err.1 }
of_written allows made old new before after (Err (Source e)) allowed ok err = absurd err.0
of_written allows made old new before after (Err (Input e)) allowed ok err = absurd err.0
of_written allows made old new before after (Err (Schedule e)) allowed ok err = absurd err.0
of_written allows made old new before after (Err Memory) allowed ok err = absurd err.0
of_written allows made old new before after (Err OutOfRange) allowed ok err = absurd err.0
of_written allows made old new before after (Err NotStarted) allowed ok err = absurd err.0
of_written allows made old new before after (Err Stuck) allowed ok err = absurd err.0

-- the same of texts that readers gave
of_three : (source input schedule : Option (List ℕ)) (texts : Texts) (x y z : List ℕ) (P : List ℕ → List ℕ → List ℕ → Type 0) → x ≡ texts.source.items → y ≡ texts.input.items → z ≡ texts.schedule.items
    → AreGiven source input schedule texts → P x y z → OfTexts source input schedule P
of_three source input schedule texts x y z P first second third given holds =
    (x, subst (Gives source) (sym first) given.0, (y, subst (Gives input) (sym second) given.1, (z, subst (Gives schedule) (sym third) given.2, holds)))

pub given_as : (source input schedule : Option (List ℕ)) (texts : Texts) (x y z : List ℕ) → x ≡ texts.source.items → y ≡ texts.input.items → z ≡ texts.schedule.items
    → (old new before after : Option (List ℕ)) (outcome : Outcome) (status : ℕ) → status ≡ number_of (status_of outcome) → AreGiven source input schedule texts
    → UpgradeWorks (Upgrading x y z) old new before after (Ok outcome) → OfTexts source input schedule (λ text given picks. WroteUpgradedAs (Upgrading text given picks) old new before after status)
given_as source input schedule texts x y z first second third old new before after outcome status is given works =
    of_three source input schedule texts x y z (λ text given picks. WroteUpgradedAs (Upgrading text given picks) old new before after status) first second third given (outcome, is, works)

pub given_err : (source input schedule : Option (List ℕ)) (texts : Texts) (x y z : List ℕ) → x ≡ texts.source.items → y ≡ texts.input.items → z ≡ texts.schedule.items
    → (old new before after : Option (List ℕ)) (r : Result Outcome EngineFault) → AreGiven source input schedule texts → UpgradeWorks (Upgrading x y z) old new before after r
    → IfErr r (λ fault. LeavesBoth fault old new before after (OfTexts source input schedule (λ text given picks. WroteUpgradedPart (Upgrading text given picks) old new before after)))
given_err source input schedule texts x y z first second third old new before after (Ok outcome) given works = tt
given_err source input schedule texts x y z first second third old new before after (Err (Writing e)) given works =
    of_three source input schedule texts x y z (λ text given picks. WroteUpgradedPart (Upgrading text given picks) old new before after) first second third given works
given_err source input schedule texts x y z first second third old new before after (Err Memory) given works = works
given_err source input schedule texts x y z first second third old new before after (Err (Source e)) given works = absurd works
given_err source input schedule texts x y z first second third old new before after (Err (Input e)) given works = absurd works
given_err source input schedule texts x y z first second third old new before after (Err (Schedule e)) given works = absurd works
given_err source input schedule texts x y z first second third old new before after (Err OutOfRange) given works = absurd works
given_err source input schedule texts x y z first second third old new before after (Err NotStarted) given works = absurd works
given_err source input schedule texts x y z first second third old new before after (Err Stuck) given works = absurd works
