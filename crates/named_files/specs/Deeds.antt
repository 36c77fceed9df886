-- What the program does with files, one thing after another, by their names.
use Rattle.std.specs.Prelude.{◌≡◌, ◌++◌, ◌⊎◌, ℕ, List, [], ◌∷◌, Option}
use Rattle.std.specs.Prelude.{Some, None, Result, Ok, Err, Vec, option_map}
use Rattle.std.specs.Global.{Global}
use Rattle.std.specs.declared.io.Error.{Error}
use Rattle.command_output.specs.declared.fault.ReadFault.{ReadFault}
use Rattle.command_output.specs.declared.fault.ReadFault.TheVariants as reading
use Rattle.command_output.specs.declared.status.Status.{Status}
use Rattle.command_output.specs.declared.status.Status.TheVariants as statuses
use Rattle.command_output.specs.declared.texts.Texts.{Texts}
use Rattle.named_files.specs.declared.fault.FileFault.{FileFault}
use Rattle.named_files.specs.declared.fault.FileFault.TheVariants.{Opening, Reading, Memory}
use Rattle.named_files.specs.declared.files.Clash.{Clash}
use Rattle.named_files.specs.declared.files.Given.{Given}
use Rattle.named_files.specs.declared.files.Unread.{Unread}

-- A name is compared with those of other files, whether its file may not be written; a file is
-- read, and its bytes were had or not; a file is given bytes, all of them or, by an error, none.
pub data Deed : Type 0 where
  Compares : (name : List ℕ) → (others : List (List ℕ)) → Option Clash → Deed
  Reads : (name : List ℕ) → Result (List ℕ) FileFault → Deed
  Replaces : (name bytes : List ℕ) → Option Error → Deed

-- one more thing is done, where it is known what was
abbrev pub noted : Option (List Deed) → Deed → Option (List Deed)
noted known deed = option_map (λ deeds. deeds ++ deed ∷ []) known

-- the bytes that were had, or why not
abbrev pub got : Result (Vec ℕ Global) FileFault → Result (List ℕ) FileFault
got (Ok bytes) = Ok bytes.items
got (Err fault) = Err fault

-- the same where the file's name goes with it
abbrev pub unread : Result (Vec ℕ Global) Unread → Result (List ℕ) FileFault
unread (Ok bytes) = Ok bytes.items
unread (Err file) = Err file.fault

-- the error by which none were given, if there was one
abbrev pub unput : {T : Type 0} → Result T Error → Option Error
unput (Ok done) = None
unput (Err error) = Some error

-- what a failed read of an opened file comes to
abbrev pub of_read : ReadFault → FileFault
of_read (reading.Reader e) = Reading e
of_read reading.Memory = Memory

-- the bytes of an opened file, or what a failed read comes to
abbrev pub of_reads : Result (Vec ℕ Global) ReadFault → Result (Vec ℕ Global) FileFault
of_reads (Ok bytes) = Ok bytes
of_reads (Err fault) = Err (of_read fault)

-- the exit status of a file whose bytes can't be had
abbrev pub file_status : FileFault → Status
file_status (Opening e) = statuses.FileFailed
file_status (Reading e) = statuses.FileFailed
file_status Memory = statuses.NoMemory

-- a source's file was read, and then an input's, if one is named, up to the first
-- whose bytes couldn't be had
abbrev pub HasGiven : (source : List ℕ) → (input : Option (List ℕ))
    → (before after : Option (List Deed)) → Result Given Unread → Type 0
HasGiven source None before after (Ok given) =
    (after ≡ noted before (Reads source (Ok given.source.items))) × (given.input.items ≡ [])
HasGiven source None before after (Err file) = after ≡ noted before (Reads source (Err file.fault))
HasGiven source (Some input) before after (Ok given) =
    after ≡ noted (noted before (Reads source (Ok given.source.items)))
    (Reads input (Ok given.input.items))
HasGiven source (Some input) before after (Err file) =
    (after ≡ noted before (Reads source (Err file.fault)))
    ⊎ ((text : List ℕ)
    × (after ≡ noted (noted before (Reads source (Ok text))) (Reads input (Err file.fault))))

-- three files were read in this order, up to the first whose bytes couldn't be had
abbrev pub HasRead : (source input schedule : List ℕ) → (before after : Option (List Deed))
    → Result Texts Unread → Type 0
HasRead source input schedule before after (Ok texts) =
    after ≡ noted (noted (noted before (Reads source (Ok texts.source.items)))
    (Reads input (Ok texts.input.items))) (Reads schedule (Ok texts.schedule.items))
HasRead source input schedule before after (Err file) =
    (after ≡ noted before (Reads source (Err file.fault)))
    ⊎ (((text : List ℕ)
    × (after ≡ noted (noted before (Reads source (Ok text))) (Reads input (Err file.fault))))
    ⊎ ((text : List ℕ) × (given : List ℕ)
    × (after ≡ noted (noted (noted before (Reads source (Ok text))) (Reads input (Ok given)))
    (Reads schedule (Err file.fault)))))
