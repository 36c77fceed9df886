-- Records that are handed on while a run goes on.
use Rattle.std.specs.Prelude.{◌≡◌, ◌≤◌, ◌+◌, ℕ, Bool, true, List, length, take, drop, Option, ⊤}
use Rattle.std.specs.Io.KnownBytes.{Appends}
use Rattle.record_writer.specs.Written.{Begins, FallsShort}
use Rattle.machine.specs.Code.{Code}
use Rattle.machine.specs.State.{AreSizes, Machine}
use Rattle.unrecorded.specs.View.{IsReached}
use Rattle.processors.specs.declared.report.Broken.{Broken}
use Rattle.processors.specs.declared.report.Broken.TheVariants.{NotStarted, Writing}
use Rattle.processors.specs.declared.report.RunRefusal.{RunRefusal}
use Rattle.processors.specs.declared.report.RunRefusal.TheVariants as refusals

-- each state that a run reaches has printed a beginning of the text
abbrev pub AreBeginnings : Code → (input : List ℕ) → (p s : ℕ) → (text : List ℕ) → Type 0
AreBeginnings code input p s text =
    AreSizes p s → (m : Machine) → IsReached code input p s m → Begins m.output text

-- the same where records are handed on while the run goes on
abbrev pub MayTell : (streams : Bool) → Code → (input : List ℕ) → (p s : ℕ)
    → (text : List ℕ) → Type 0
MayTell streams code input p s text = streams ≡ true → AreBeginnings code input p s text

-- these bytes of a text wait, behind so many that were handed on
abbrev pub Waits : (text pending : List ℕ) → (shown : ℕ) → Type 0
Waits text pending shown =
    (shown + length pending ≤ length text) × (pending ≡ take (length pending) (drop shown text))

-- a writer's bytes grew by so many bytes of a text
abbrev pub Shows : (text : List ℕ) → (shown : ℕ) → (old new : Option (List ℕ)) → Type 0
Shows text shown old new = (shown ≤ length text) × Appends old new (take shown text)

-- they grew by a beginning of it, of which something is missing
abbrev pub Breaks : (text : List ℕ) → (old new : Option (List ℕ)) → Type 0
Breaks text old new = (got : List ℕ) × Appends old new got × FallsShort got text

-- where they had grown by so many bytes of it, they have by so many now
abbrev pub ShowsOn : (text : List ℕ) → (before after : ℕ) → (old new : Option (List ℕ)) → Type 0
ShowsOn text before after old new =
    (first : Option (List ℕ)) → Shows text before first old → Shows text after first new

-- or the writer has failed
abbrev pub BreaksOn : (text : List ℕ) → (before : ℕ) → (old new : Option (List ℕ)) → Type 0
BreaksOn text before old new =
    (first : Option (List ℕ)) → Shows text before first old → Breaks text first new

-- Why the first processor left before the run's end: a thread couldn't be started, and nothing was
-- written; or the writer has failed.
abbrev pub IsBroken : Broken → (text : List ℕ) → (old new : Option (List ℕ)) → Type 0
IsBroken (NotStarted failure) text old new = new ≡ old
IsBroken (Writing e) text old new = Breaks text old new

-- where the numbers are out of range, or a thread couldn't be started, nothing is written
abbrev pub WritesNone : (old new : Option (List ℕ)) → RunRefusal → Type 0
WritesNone old new refusals.OutOfRange = new ≡ old
WritesNone old new (refusals.NotStarted failure) = new ≡ old
WritesNone old new _ = ⊤

-- the run was begun
abbrev pub WasBegun : RunRefusal → Type 0
WasBegun refusals.OutOfRange = ⊥
WasBegun (refusals.NotStarted failure) = ⊥
WasBegun _ = ⊤
