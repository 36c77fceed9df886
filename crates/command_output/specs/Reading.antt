-- What reading a text comes to, and reading a source, an input and a schedule, each to its end
-- before the next.
use Rattle.std.specs.Prelude.{◌≡◌, ℕ, IfSome, List, ⊤, Option, Result, Ok, Err, Vec}
use Rattle.std.specs.Global.{Global}
use Rattle.std.specs.Io.KnownBytes.{IsAtEnd}
use Rattle.command_output.specs.declared.fault.EngineFault.{EngineFault}
use Rattle.command_output.specs.declared.fault.EngineFault.TheVariants.{Source, Input, Schedule}
use Rattle.command_output.specs.declared.fault.EngineFault.TheVariants.{Writing, Memory, OutOfRange}
use Rattle.command_output.specs.declared.fault.EngineFault.TheVariants.{NotStarted, Stuck}
use Rattle.command_output.specs.declared.fault.ReadFault.{ReadFault}
use Rattle.command_output.specs.declared.texts.Texts.{Texts}

-- a reader gives a text: all that it has left, where that is known
abbrev pub Gives : Option (List ℕ) → List ℕ → Type 0
Gives known text = IfSome known (λ bytes. text ≡ bytes)

-- this holds of some text that a reader gives
abbrev pub OfText : Option (List ℕ) → (List ℕ → Type 0) → Type 0
OfText known P = (text : List ℕ) × Gives known text × P text

-- this holds of some texts that three readers give
abbrev pub OfTexts : (source input schedule : Option (List ℕ))
    → (List ℕ → List ℕ → List ℕ → Type 0) → Type 0
OfTexts source input schedule P =
    OfText source (λ text. OfText input (λ given. OfText schedule (λ picks. P text given picks)))

-- the texts are those that three readers give
abbrev pub AreGiven : (source input schedule : Option (List ℕ)) → Texts → Type 0
AreGiven source input schedule texts =
    Gives source texts.source.items × Gives input texts.input.items
    × Gives schedule texts.schedule.items

-- Where a fault leaves the readers: it has left those after its own alone, and any but want of
-- memory comes when those before its own have given all.
abbrev pub LeavesThree : EngineFault
    → (source input_old input_new schedule_old schedule_new : Option (List ℕ)) → Type 0
LeavesThree (Source e) source i j s t = (j ≡ i) × (t ≡ s)
LeavesThree (Input e) source i j s t = IsAtEnd source × (t ≡ s)
LeavesThree (Schedule e) source i j s t = IsAtEnd source × IsAtEnd j
LeavesThree (Writing e) source i j s t = IsAtEnd source × IsAtEnd j × IsAtEnd t
LeavesThree Memory source i j s t = ⊤
LeavesThree OutOfRange source i j s t = ⊥
LeavesThree NotStarted source i j s t = ⊥
LeavesThree Stuck source i j s t = ⊥

-- a fault of a reader, or want of memory
abbrev pub IsReading : EngineFault → Type 0
IsReading (Source e) = ⊤
IsReading (Input e) = ⊤
IsReading (Schedule e) = ⊤
IsReading Memory = ⊤
IsReading _ = ⊥

-- what comes after the read of a text: where that failed its fault, and otherwise what is made of
-- its bytes
abbrev pub AfterText : {X : Type 0} → Result (Vec ℕ Global) ReadFault → (ReadFault → EngineFault)
    → Result X EngineFault → (List ℕ → Type 0) → Type 0
AfterText (Err fault) comes_to result made = result ≡ Err (comes_to fault)
AfterText (Ok bytes) comes_to result made = made bytes.items

-- what reading a schedule comes to after a source and an input: no fault is theirs
abbrev pub AfterInput : (source input : List ℕ) (old new : Option (List ℕ))
    → Result Texts EngineFault → Type 0
AfterInput source input old new (Ok texts) =
    (texts.source.items ≡ source) × (texts.input.items ≡ input)
    × Gives old texts.schedule.items × IsAtEnd new
AfterInput source input old new (Err (Schedule e)) = ⊤
AfterInput source input old new (Err Memory) = ⊤
AfterInput source input old new (Err _) = ⊥

-- what reading an input and a schedule comes to after a source: no fault is its
abbrev pub AfterSource :
    (source : List ℕ) (input_old input_new schedule_old schedule_new : Option (List ℕ))
    → Result Texts EngineFault → Type 0
AfterSource source i j s t (Ok texts) =
    (texts.source.items ≡ source) × Gives i texts.input.items × Gives s texts.schedule.items
    × IsAtEnd j × IsAtEnd t
AfterSource source i j s t (Err (Input e)) = t ≡ s
AfterSource source i j s t (Err (Schedule e)) = IsAtEnd j
AfterSource source i j s t (Err Memory) = ⊤
AfterSource source i j s t (Err _) = ⊥
