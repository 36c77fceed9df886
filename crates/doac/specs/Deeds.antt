-- What a command does with files, and the exit status that goes with it.
use Rattle.std.specs.Prelude.{◌≡◌, ◌≢◌, ℕ, List, [], ◌∷◌, Option, Some, None, Result, Ok, Err}
use Rattle.std.specs.IoError.{error_kind}
use Rattle.std.specs.declared.io.Error.{Error}
use Rattle.std.specs.declared.io.ErrorKind.TheVariants.{OutOfMemory}
use Rattle.command_output.specs.declared.texts.Texts.{Texts}
use Rattle.named_files.specs.Deeds.{Deed, Compares, Reads, Replaces, file_status, noted}
use Rattle.named_files.specs.declared.fault.FileFault.{FileFault}
use Rattle.named_files.specs.declared.files.Clash.{Clash}
use Rattle.named_files.specs.declared.files.Clash.TheVariants.{Read, Output}
use Rattle.named_files.specs.declared.files.Given.{Given}
use Rattle.named_files.specs.declared.files.Unread.{Unread}
use Rattle.command_output.specs.declared.status.Status.{Status}
use Rattle.command_output.specs.declared.status.Status.TheVariants as statuses

-- the exit status of an error: that of want of memory, or another one
abbrev pub OfError : Error → (other status : Status) → Type 0
OfError error other status =
    (error_kind error ≡ OutOfMemory → status ≡ statuses.NoMemory)
    × (error_kind error ≢ OutOfMemory → status ≡ other)

-- the exit status of giving a file bytes
abbrev pub OfWrite : Option Error → Status → Type 0
OfWrite None status = status ≡ statuses.Done
OfWrite (Some error) status = OfError error statuses.FileFailed status

-- ---- What follows says of a command what it does with files, which had done `before` and in the
-- end `after`; standard output had the bytes `old` and in the end `new`; and its exit status.

-- Where a file's bytes can't be had nothing more is done and nothing is written, and the status is
-- the fault's. Otherwise `made` says what is made of them.
abbrev pub AfterFile : Result (List ℕ) FileFault → (before after : Option (List Deed))
    → (old new : Option (List ℕ)) → Status → (List ℕ → Type 0) → Type 0
AfterFile (Err fault) before after old new status made =
    (after ≡ before) × (new ≡ old) × (status ≡ file_status fault)
AfterFile (Ok text) before after old new status made = made text

-- a file is read, and then `made` says what is made of its bytes
pub record ReadsFile (name : List ℕ) (before after : Option (List Deed)) (old new : Option (List ℕ))
    (status : Status) (made : Option (List Deed) → List ℕ → Type 0) : Type 0 where
  pub given : Result (List ℕ) FileFault
  pub rest : AfterFile given (noted before (Reads name given)) after old new status
      (made (noted before (Reads name given)))

-- the same of an input, which is empty where no file is named
abbrev pub ReadsInput : Option (List ℕ) → (before after : Option (List Deed))
    → (old new : Option (List ℕ)) → Status → (Option (List Deed) → List ℕ → Type 0) → Type 0
ReadsInput None before after old new status made = made before []
ReadsInput (Some name) before after old new status made =
    ReadsFile name before after old new status made

-- a source is read, and then an input, and then `made` says what is made of both
abbrev pub ReadsGiven : (source : List ℕ) → (input : Option (List ℕ))
    → (before after : Option (List Deed)) → (old new : Option (List ℕ)) → Status
    → (Option (List Deed) → List ℕ → List ℕ → Type 0) → Type 0
ReadsGiven source input before after old new status made =
    ReadsFile source before after old new status (λ read text.
    ReadsInput input read after old new status (λ done given. made done text given))

-- the same where they were read before
abbrev pub AfterGiven : Result Given Unread → (before after : Option (List Deed))
    → (old new : Option (List ℕ)) → Status → (List ℕ → List ℕ → Type 0) → Type 0
AfterGiven (Err file) before after old new status made =
    (after ≡ before) × (new ≡ old) × (status ≡ file_status file.fault)
AfterGiven (Ok given) before after old new status made = made given.source.items given.input.items

-- three files are read, in this order
abbrev pub ReadsTexts : (source input schedule : List ℕ)
    → (before after : Option (List Deed)) → (old new : Option (List ℕ)) → Status
    → (Option (List Deed) → List ℕ → List ℕ → List ℕ → Type 0) → Type 0
ReadsTexts source input schedule before after old new status made =
    ReadsFile source before after old new status (λ first text.
    ReadsFile input first after old new status (λ second given.
    ReadsFile schedule second after old new status (λ third picks. made third text given picks)))

-- the same where these were read before
abbrev pub AfterTexts : Result Texts Unread → (before after : Option (List Deed))
    → (old new : Option (List ℕ)) → Status → (List ℕ → List ℕ → List ℕ → Type 0) → Type 0
AfterTexts (Err file) before after old new status made =
    (after ≡ before) × (new ≡ old) × (status ≡ file_status file.fault)
AfterTexts (Ok texts) before after old new status made =
    made texts.source.items texts.input.items texts.schedule.items

-- the exit status of a file that may not be written: it is read too, or standard output goes to it
abbrev pub clash_status : Clash → Status
clash_status Read = statuses.FileFailed
clash_status Output = statuses.WrongCommand

-- A file that is to be written may be none of those that are read, nor that of standard output:
-- then nothing more is done and nothing is written, and the status says so.
abbrev pub AfterCompare : Option Clash → (before after : Option (List Deed))
    → (old new : Option (List ℕ)) → Status → Type 0 → Type 0
AfterCompare (Some clash) before after old new status rest =
    (after ≡ before) × (new ≡ old) × (status ≡ clash_status clash)
AfterCompare None before after old new status rest = rest

-- the name of a file, if one is named
abbrev pub named : Option (List ℕ) → List (List ℕ)
named None = []
named (Some name) = name ∷ []

-- a name is compared with those of files that are read, and only where it may be
-- written the rest is done
pub record UnlessRead (name : List ℕ) (others : List (List ℕ))
    (before after : Option (List Deed)) (old new : Option (List ℕ)) (status : Status)
    (made : Option (List Deed) → Type 0) : Type 0 where
  pub clash : Option Clash
  pub rest : AfterCompare clash (noted before (Compares name others clash)) after old new status
      (made (noted before (Compares name others clash)))

-- the same of a file for a schedule, if one is named, beside those of a source and an input
abbrev pub UnlessOnto : (onto : Option (List ℕ)) → (source : List ℕ) → (input : Option (List ℕ))
    → (before after : Option (List Deed)) → (old new : Option (List ℕ)) → Status
    → (Option (List Deed) → Type 0) → Type 0
UnlessOnto None source input before after old new status made = made before
UnlessOnto (Some onto) source input before after old new status made =
    UnlessRead onto (source ∷ named input) before after old new status made

-- it was found out whether a file for a schedule, if one is named, may be written beside those of a
-- source and an input; the status, where it may not
abbrev pub MayWrite : {T : Type 0} → (onto : Option (List ℕ)) → (source : List ℕ)
    → (input : Option (List ℕ)) → (before after : Option (List Deed)) → Result T Status → Type 0
MayWrite None source input before after (Ok done) = after ≡ before
MayWrite None source input before after (Err status) = ⊥
MayWrite (Some onto) source input before after (Ok done) =
    after ≡ noted before (Compares onto (source ∷ named input) None)
MayWrite (Some onto) source input before after (Err status) =
    (clash : Clash) × (after ≡ noted before (Compares onto (source ∷ named input) (Some clash)))
    × (status ≡ clash_status clash)

-- a file is given bytes, and this is the status of that
pub record GivesFile (name bytes : List ℕ) (before after : Option (List Deed))
    (status : Status) : Type 0 where
  pub put : Option Error
  pub is : after ≡ noted before (Replaces name bytes put)
  pub ends : OfWrite put status

-- where a file couldn't be given its bytes nothing is written, and the status is that of the error
abbrev pub AfterPut : Option Error → (old new : Option (List ℕ)) → Status → Type 0 → Type 0
AfterPut None old new status rest = rest
AfterPut (Some error) old new status rest = (new ≡ old) × OfError error statuses.FileFailed status

-- a file is given bytes, and only where it has them the rest is done
pub record GivesFirst (name bytes : List ℕ) (before after : Option (List Deed))
    (old new : Option (List ℕ)) (status : Status) (rest : Type 0) : Type 0 where
  pub put : Option Error
  pub is : after ≡ noted before (Replaces name bytes put)
  pub then : AfterPut put old new status rest

-- a schedule was written to its file, if there are both; or the status, where it couldn't be
abbrev pub WroteFirst : {T : Type 0} → (onto schedule : Option (List ℕ))
    → (before after : Option (List Deed)) → Result T Status → Type 0
WroteFirst (Some onto) (Some schedule) before after (Ok done) =
    after ≡ noted before (Replaces onto schedule None)
WroteFirst (Some onto) (Some schedule) before after (Err status) =
    (error : Error) × (after ≡ noted before (Replaces onto schedule (Some error)))
    × OfError error statuses.FileFailed status
WroteFirst (Some onto) None before after (Ok done) = after ≡ before
WroteFirst (Some onto) None before after (Err status) = ⊥
WroteFirst None schedule before after (Ok done) = after ≡ before
WroteFirst None schedule before after (Err status) = ⊥
