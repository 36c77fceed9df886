-- Schedules: what each processor did, turn by turn, and how that is written.
use Rattle.std.specs.Prelude.{◌≡◌, ◌≤◌, ◌<◌, ◌^◌, ◌/◌, ◌%◌, ℕ, zero, suc, codes}
use Rattle.std.specs.Prelude.{decimal, List, [], ◌∷◌, ◌++◌, replicate, ⊤}
use Rattle.machine.specs.State.{AreSizes}
use Rattle.schedules.specs.declared.entry.Version.{Version}
use Rattle.schedules.specs.declared.entry.Version.TheVariants.{First, Second}

-- what a processor does in an entry
pub data Act : Type 0 where
  -- so many local instructions of the activity that it holds
  works : ℕ → Act
  -- one shared step of that activity; in the first version also what is picked by the rule
  shares : Act
  -- it picks main, the parked iteration of this number, or the next ticket
  picks_main : Act
  picks : ℕ → Act
  takes_ticket : Act

-- an entry of a schedule: a processor, and what it does
pub record Entry : Type 0 where
  pub processor : ℕ
  pub act : Act

-- a schedule: how many processors and slots there are, and its entries
pub record Schedule : Type 0 where
  pub version : Version
  pub processors : ℕ
  pub slots : ℕ
  pub entries : List Entry

-- the greatest number of local instructions of an entry
abbrev pub longest_burst : ℕ
longest_burst = 1024

-- the first version names no pick; an iteration's number has at most 128 bits
abbrev pub IsAct : Version → Act → Type 0
IsAct v (works n) = (1 ≤ n) × (n ≤ longest_burst)
IsAct v shares = ⊤
IsAct Second picks_main = ⊤
IsAct Second (picks k) = k < 2 ^ 128
IsAct Second takes_ticket = ⊤
IsAct First _ = ⊥

-- each entry is one of the first p processors, and its act is one of the version
abbrev pub AreEntries : Version → ℕ → List Entry → Type 0
AreEntries v p [] = ⊤
AreEntries v p (e ∷ es) = ((e.processor < p) × IsAct v e.act) × AreEntries v p es

-- its numbers are in range, and it can be written
abbrev pub IsSchedule : Schedule → Type 0
IsSchedule x = AreSizes x.processors x.slots × AreEntries x.version x.processors x.entries

-- a schedule with so many entries more, and with one
abbrev pub with_entries : Schedule → List Entry → Schedule
with_entries x es = record x { entries = x.entries ++ es }

abbrev pub with_entry : Schedule → Entry → Schedule
with_entry x e = with_entries x (e ∷ [])

-- what is left behind the longest bursts, if anything is
abbrev pub last_burst : ℕ → ℕ → List Entry
last_burst q zero = []
last_burst q (suc n) = record { processor = q; act = works (suc n) } ∷ []

-- So many local instructions of a processor, in entries as long as they may be.
abbrev pub bursts : ℕ → ℕ → List Entry
bursts q n =
    replicate (n / longest_burst) (record { processor = q; act = works longest_burst })
    ++ last_burst q (n % longest_burst)

-- ---- the text. Each line ends in LF, numbers are in shortest decimal, parted by one blank.

-- line 1
abbrev pub header : Version → List ℕ
header First = codes "DOACROSS SCHEDULE 1"
header Second = codes "DOACROSS SCHEDULE 2"

-- a line, and what stands behind it
abbrev pub line_before : List ℕ → List ℕ → List ℕ
line_before line rest = line ++ 10 ∷ rest

-- line 2: the number of processors and that of slots
abbrev pub sizes_text : ℕ → ℕ → List ℕ
sizes_text p s = decimal p ++ 32 ∷ decimal s

-- what stands in an entry's line behind the processor
abbrev pub act_text : Act → List ℕ
act_text (works n) = decimal n
act_text shares = codes "0"
act_text picks_main = codes "M"
act_text (picks k) = codes "I " ++ decimal k
act_text takes_ticket = codes "T"

-- the line of an entry
abbrev pub entry_text : Entry → List ℕ
entry_text e = decimal e.processor ++ 32 ∷ act_text e.act

-- the lines of entries before what follows them
abbrev pub entries_before : List Entry → List ℕ → List ℕ
entries_before [] rest = rest
entries_before (e ∷ es) rest = line_before (entry_text e) (entries_before es rest)

-- the text of a schedule before what follows it
abbrev pub text_before : Schedule → List ℕ → List ℕ
text_before x rest =
    line_before (header x.version)
    (line_before (sizes_text x.processors x.slots) (entries_before x.entries rest))

-- the whole text of a schedule
abbrev pub text_of : Schedule → List ℕ
text_of x = text_before x []

-- The bytes are the text of the schedule. A schedule has one spelling.
pub record SchedText (x : Schedule) (bytes : List ℕ) : Type 0 where
  pub schedule : IsSchedule x
  pub spelled : bytes ≡ text_of x
