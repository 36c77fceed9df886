-- What is shown of the states of a run that a schedule describes: a block for each line of it.
use Rattle.std.specs.Prelude.{ℕ, zero, suc, ◌-◌, nat_le, ◌==◌, if◌then◌else◌}
use Rattle.std.specs.Prelude.{Bool, true, false, is_some, codes, decimal, List}
use Rattle.std.specs.Prelude.{[], ◌∷◌, ◌++◌, drop, Option, Some, None, slice_get}
use Rattle.ast.specs.declared.fault.Fault.{Fault}
use Rattle.machine.specs.Code.{Code}
use Rattle.machine.specs.Frame.{Frame}
use Rattle.machine.specs.State.{Machine, Wait, until_count, until_retired}
use Rattle.machine.specs.View.{most_events}
use Rattle.machine.specs.declared.instr.Instr.{Instr}
use Rattle.schedules.specs.Schedules.{Entry, entry_text}
use Rattle.activities.specs.Activities.{frame_at}
use Rattle.activities.specs.Points.{Point, frame_in}

-- ---- where an activity stands: its place in the code, and the line of the source

-- the line of an instruction, 0 where there is none
abbrev pub line_at : Option Instr → ℕ
line_at None = 0
line_at (Some i) = i.line

-- that of a fault, where there is one
abbrev pub line_behind : Option (Fault × ℕ) → ℕ → ℕ
line_behind None line = line
line_behind (Some x) line = x.1

-- the line at which a frame stands
abbrev pub line_of : Code → Frame → ℕ
line_of code f = line_behind f.fault (line_at (slice_get code.instructions f.place))

-- an iteration by its number, or main, which has none
abbrev pub number_words : Option ℕ → List ℕ
number_words None = codes " MAIN"
number_words (Some k) = codes " ITERATION " ++ decimal k

-- which activity has a frame, and where it stands
abbrev pub activity_words : Code → Option Frame → List ℕ
activity_words code None = []
activity_words code (Some f) =
    number_words f.number ++ codes " PLACE " ++ decimal f.place ++ codes " LINE "
    ++ decimal (line_of code f)

-- ---- counts

-- how many iterations have retired, and which ticket is next
abbrev pub open_line : Machine → List ℕ
open_line m =
    codes " RETIRED " ++ decimal m.retired ++ codes " TICKET " ++ decimal m.ticket ++ 10 ∷ []

-- the count of an event, where it isn't 0
abbrev pub count_line : ℕ → ℕ → List ℕ
count_line e n =
    if n == 0 then [] else codes " EVENT " ++ decimal e ++ codes " COUNT " ++ decimal n ++ 10 ∷ []

-- those of so many events, of which the first has this number
abbrev pub count_lines : (ℕ → ℕ) → ℕ → ℕ → List ℕ
count_lines counts e zero = []
count_lines counts e (suc n) = count_line e (counts e) ++ count_lines counts (suc e) n

-- ---- who is held

-- a processor, with the frame of what it holds, if it holds anything
abbrev pub held_line : Code → ℕ → Option Frame → List ℕ
held_line code q None = []
held_line code q (Some f) =
    codes " PROCESSOR " ++ decimal q ++ activity_words code (Some f) ++ 10 ∷ []

-- so many processors, of which the first has this number
abbrev pub held_lines : Code → Point → ℕ → ℕ → List ℕ
held_lines code x q zero = []
held_lines code x q (suc n) = held_line code q (frame_at q x) ++ held_lines code x (suc q) n

-- ---- who is parked, and on what

-- what is waited for is reached
abbrev pub is_reached : Machine → Wait → Bool
is_reached m (until_count e v) = nat_le v (m.counts e)
is_reached m (until_retired v) = nat_le v m.retired

abbrev pub state_word : Bool → List ℕ
state_word true = codes " READY"
state_word false = codes " WAITS"

abbrev pub until_words : Wait → List ℕ
until_words (until_count e v) = codes " UNTIL EVENT " ++ decimal e ++ codes " COUNT " ++ decimal v
until_words (until_retired v) = codes " UNTIL RETIRED " ++ decimal v

-- an activity with its frame, if it is parked
abbrev pub parked_line : Code → Machine → Option Frame → Option Wait → List ℕ
parked_line code m f None = []
parked_line code m f (Some w) =
    state_word (is_reached m w) ++ activity_words code f ++ until_words w ++ 10 ∷ []

abbrev pub main_line : Code → Machine → List ℕ
main_line code m = parked_line code m (Some m.main) m.waiting

abbrev pub iteration_line : Code → Machine → ℕ → List ℕ
iteration_line code m k = parked_line code m (frame_in (m.iterations k)) (m.parked k)

-- so many iterations, of which the first has this number
abbrev pub parked_lines : Code → Machine → ℕ → ℕ → List ℕ
parked_lines code m k zero = []
parked_lines code m k (suc n) = iteration_line code m k ++ parked_lines code m (suc k) n

-- ---- a state

abbrev pub ended_line : Bool → List ℕ
ended_line true = codes " ENDED\n"
ended_line false = []

-- what is shown of events
unfoldable pub event_lines : Machine → List ℕ
event_lines m = count_lines m.counts 1 most_events

-- The lines of a state of so many processors: the counts; what each processor holds; who is parked,
-- main first, then the open iterations in their order; and that the run has ended.
abbrev pub state_lines : Code → ℕ → Point → List ℕ
state_lines code p x =
    open_line x.machine ++ event_lines x.machine ++ held_lines code x 0 p
    ++ main_line code x.machine
    ++ parked_lines code x.machine x.machine.retired (x.machine.ticket - x.machine.retired)
    ++ ended_line (is_some x.machine.ended)

-- ---- blocks

-- records, each line behind a mark
abbrev pub marked_byte : Bool → ℕ → List ℕ
marked_byte true c = 62 ∷ 32 ∷ c ∷ []
marked_byte false c = c ∷ []

abbrev pub marked : Bool → List ℕ → List ℕ
marked begins [] = []
marked begins (c ∷ cs) = marked_byte begins c ++ marked (c == 10) cs

-- the head of the block of an entry, which stands in this line of the schedule
abbrev pub head_line : ℕ → Entry → List ℕ
head_line line e = codes "LINE " ++ decimal line ++ codes " ENTRY " ++ entry_text e ++ 10 ∷ []

-- the block of the schedule's second line: the state in which a run begins
abbrev pub first_block : Code → ℕ → Point → List ℕ
first_block code p x = codes "LINE 2\n" ++ state_lines code p x

-- The block of an entry that led to a state: what has gone out behind so many bytes, and the state.
abbrev pub block : Code → ℕ → ℕ → Entry → ℕ → Point → List ℕ
block code p line e before x =
    head_line line e ++ marked true (drop before x.machine.output) ++ state_lines code p x
