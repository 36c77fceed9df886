-- Why bytes are no schedule's text: what is wrong, and the line where it shows, from 1.
use Rattle.std.specs.Prelude.{◌≡◌, ◌≢◌, ◌≤◌, ◌+◌, ◌⊎◌, nat_le, Bool, true, false}
use Rattle.std.specs.Prelude.{not, ◌&&◌, ◌==◌, ℕ, List, [], ◌∷◌, ◌++◌, length, ⊤}
use Rattle.std.specs.List.{list_all}
use Rattle.std.specs.Str.Parse.{digits_value}
use Rattle.machine.specs.State.{AreSizes}
use Rattle.schedules.specs.Schedules.{Act, IsAct, Schedule, IsSchedule, act_text}
use Rattle.schedules.specs.Schedules.{header, line_before, sizes_text, text_before}
use Rattle.schedules.specs.declared.entry.Version.{Version}
use Rattle.schedules.specs.declared.flaw.Flaw.{Flaw}
use Rattle.schedules.specs.declared.flaw.Flaw.TheVariants as flaws
use Rattle.schedules.specs.declared.reading.NoEntry.{NoEntry}
use Rattle.schedules.specs.declared.reading.NoEntry.TheVariants as lacks
use Rattle.schedules.specs.declared.refusal.ReplayRefusal.{ReplayRefusal}
use Rattle.schedules.specs.declared.refusal.ReplayRefusal.TheVariants.{Memory, Refused}

abbrev pub is_digit : ℕ → Bool
is_digit c = nat_le 48 c && nat_le c 57

-- one character or more, with no zero before others
abbrev pub is_shortest : List ℕ → Bool
is_shortest [] = false
is_shortest (c ∷ []) = true
is_shortest (c ∷ d ∷ ds) = not (c == 48)

-- digits write a number, with no zero before it
pub record IsNumber (digits : List ℕ) (n : ℕ) : Type 0 where
  pub all : list_all is_digit digits ≡ true
  pub shortest : is_shortest digits ≡ true
  pub value : digits_value 10 digits ≡ n

-- The bytes begin with a line that has the form of an entry: a processor's number, whether there is
-- such a processor or not, and what the version lets it do.
pub record BeginsEntry (version : Version) (processor : ℕ) (bytes : List ℕ) : Type 0 where
  pub digits : List ℕ
  pub number : IsNumber digits processor
  pub act : Act
  pub allowed : IsAct version act
  pub rest : List ℕ
  pub is : bytes ≡ digits ++ 32 ∷ line_before (act_text act) rest

-- The bytes begin with the text of a schedule and go on; what goes on is on this line.
pub record GoesOn (bytes : List ℕ) (x : Schedule) (rest : List ℕ) (line : ℕ) : Type 0 where
  pub schedule : IsSchedule x
  pub is : bytes ≡ text_before x rest
  pub some : rest ≢ []
  pub at : line ≡ 3 + length x.entries

-- line 1 is the header of no version
abbrev pub NoHeader : List ℕ → Type 0
NoHeader bytes = (v : Version) (rest : List ℕ) → bytes ≡ line_before (header v) rest → ⊥

-- line 2 is not of two numbers within their ranges
pub record NoSizes (bytes : List ℕ) : Type 0 where
  pub version : Version
  pub rest : List ℕ
  pub headed : bytes ≡ line_before (header version) rest
  pub none : (p s : ℕ) (behind : List ℕ) → AreSizes p s
      → rest ≡ line_before (sizes_text p s) behind → ⊥

-- what goes on begins with no entry
pub record NoEntryAt (bytes : List ℕ) (line : ℕ) : Type 0 where
  pub before : Schedule
  pub rest : List ℕ
  pub goes_on : GoesOn bytes before rest line
  pub none : (q : ℕ) → BeginsEntry before.version q rest → ⊥

-- it begins with an entry of a processor that isn't there
pub record NoProcessorAt (bytes : List ℕ) (line : ℕ) : Type 0 where
  pub before : Schedule
  pub rest : List ℕ
  pub goes_on : GoesOn bytes before rest line
  pub processor : ℕ
  pub entry : BeginsEntry before.version processor rest
  pub absent : before.processors ≤ processor

-- the refusal has its cause
abbrev pub Refuses : List ℕ → Flaw → ℕ → Type 0
Refuses bytes flaws.Header line = ((line ≡ 1) × NoHeader bytes) ⊎ ((line ≡ 2) × NoSizes bytes)
Refuses bytes flaws.Entry line = NoEntryAt bytes line
Refuses bytes flaws.Processor line = NoProcessorAt bytes line
Refuses bytes flaws.Impossible line = ⊥
Refuses bytes flaws.Unended line = ⊥
Refuses bytes flaws.BehindEnd line = ⊥

-- a claim about the flaw and the line of a refusal; want of memory is always allowed
abbrev pub Explains : ReplayRefusal → (Flaw → ℕ → Type 0) → Type 0
Explains Memory claim = ⊤
Explains (Refused flaw line) claim = claim flaw line

-- The bytes begin with lines 1 and 2 of a schedule.
pub record IsHeaded (bytes : List ℕ) : Type 0 where
  pub version : Version
  pub processors : ℕ
  pub slots : ℕ
  pub sizes : AreSizes processors slots
  pub rest : List ℕ
  pub is : bytes ≡ line_before (header version) (line_before (sizes_text processors slots) rest)

-- memory is wanted only where this holds
abbrev pub WantsMemory : ReplayRefusal → Type 0 → Type 0
WantsMemory Memory claim = claim
WantsMemory (Refused flaw line) claim = ⊤

-- an account of the code: what is wrong where a line is no entry
abbrev pub flaw_of : NoEntry → Flaw
flaw_of lacks.Form = flaws.Entry
flaw_of lacks.Processor = flaws.Processor
