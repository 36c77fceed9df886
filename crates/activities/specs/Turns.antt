-- An account of the code: what a step of an iteration leaves.
use Rattle.std.specs.Prelude.{◌≡◌, ℕ, ℤ, pos, ◌+◌, ◌-◌, ◌<◌, ◌≤◌, ◌^◌, length, ◌==◌, nat_lt}
use Rattle.std.specs.Prelude.{nat_le, Bool, true, false, if◌then◌else◌, List, [], ◌∷◌, ◌++◌}
use Rattle.std.specs.Prelude.{get_or, map, set, Option, Some, None, slice_get, Result, Ok, Err}
use Rattle.ast.specs.Exact.{in_range}
use Rattle.ast.specs.Input.{next_integer, taken as read_record}
use Rattle.ast.specs.Record.{record_of}
use Rattle.ast.specs.declared.fault.End.{End}
use Rattle.ast.specs.declared.fault.End.TheVariants.{Done, Stopped, Fault as Faulted}
use Rattle.ast.specs.declared.fault.Fault.{Fault}
use Rattle.ec_kernel.specs.View.{IsKernel, count_at, places, parked, advanced, restarted}
use Rattle.machine.specs.Code.{Code, loop_at}
use Rattle.machine.specs.CodeView.{part}
use Rattle.machine.specs.Frame.{Frame}
use Rattle.machine.specs.Laid.{cell_number, count_of}
use Rattle.machine.specs.Local.{going_on, without}
use Rattle.machine.specs.Next.{values_for}
use Rattle.machine.specs.State.{Wait, until_count, until_retired, Who}
use Rattle.machine.specs.View.{Input, filled, frame_after, frame_joined, frame_with}
use Rattle.machine.specs.View.{index_at, input_after, input_behind, with_operand}
use Rattle.machine.specs.declared.code.Open.{Open}
use Rattle.machine.specs.declared.code.Piece.{Piece}
use Rattle.machine.specs.declared.next.Next.{Next}
use Rattle.machine.specs.declared.next.Next.TheVariants.{Load, Store, Print, TakeRecord}
use Rattle.machine.specs.declared.next.Next.TheVariants.{TakeValue, DropRecord, Await, Advance}
use Rattle.machine.specs.declared.next.Next.TheVariants.{Opens, Join, Retire, Report, Stop, Halt}
use Rattle.activities.specs.Parts.{Standing, Shared, Kept}
use Rattle.activities.specs.declared.turn.Outcome.{Outcome}
use Rattle.activities.specs.declared.turn.Outcome.TheVariants.{Stays, Parks, Leaves, Ends, Idle}

-- what came of the step, and the shared parts and the iteration behind it
pub record After : Type 0 where
  pub outcome : Outcome
  pub shared : Shared
  pub standing : Standing

-- the iteration stays, with these parts
abbrev pub stays : Shared → Standing → After
stays x a = record { outcome = Stays; shared = x; standing = a }

-- nothing was done
abbrev pub idle : Shared → Standing → After
idle x a = record { outcome = Idle; shared = x; standing = a }

-- the iteration is parked in its slot, on the count of event e
abbrev pub parks : ℕ → ℕ → ℕ → Wait → Shared → Standing → After
parks slot e v w x a = record {
  outcome = Parks;
  shared = record x { order = parked x.order e v slot };
  standing = record a { wait = Some w };
}

-- the iteration waits until it is the next to retire
abbrev pub waits_its_turn : ℕ → Shared → Standing → After
waits_its_turn slot x a = parks slot 0 a.number (until_retired a.number) x a

-- the cells after private scalars that were defined are stored
abbrev pub set_if : Option ℕ → ℤ → List ℤ → List ℤ
set_if None v cells = cells
set_if (Some n) v cells = set cells n v

-- the cells when an iteration retires: those of private scalars that it defined have their values
abbrev pub cells_after : Code → List ℕ → List (Option ℤ) → List ℤ → List ℤ
cells_after code [] vs cells = cells
cells_after code (x ∷ xs) [] cells = cells
cells_after code (x ∷ xs) (None ∷ vs) cells = cells_after code xs vs cells
cells_after code (x ∷ xs) (Some v ∷ vs) cells =
    set_if (cell_number (slice_get code.variables x) (pos 0)) v (cells_after code xs vs cells)

-- the cells after one private scalar is stored, where it was defined
abbrev pub one_after : Code → ℕ → Option ℤ → List ℤ → List ℤ
one_after code x None cells = cells
one_after code x (Some v) cells = set_if (cell_number (slice_get code.variables x) (pos 0)) v cells

-- the iteration retires, and its output goes out
abbrev pub leaves : Code → ℕ → Shared → Standing → After
leaves code n x a = record {
  outcome = Leaves;
  shared = record x {
    cells = cells_after code (loop_at code n).privates a.frame.privates x.cells;
    order = advanced x.order 0;
    output = x.output ++ a.out;
  };
  standing = a;
}

-- the run ends, and the iteration's output goes out
abbrev pub ends : End → Shared → Standing → After
ends e x a = record {
  outcome = Ends;
  shared = record x { output = x.output ++ a.out; ended = Some e };
  standing = a;
}

-- a fault or a STOP of an iteration: it ends the run where those before have retired
abbrev pub reported : ℕ → End → Shared → Standing → After
reported slot e x a = if count_at x.order 0 == a.number then ends e x a else waits_its_turn slot x a

-- a record of k values is printed to the iteration's own output
abbrev pub printed_own : List Piece → ℕ → Standing → Standing
printed_own pieces k a = record a {
  frame = going_on (without k a.frame.operands) a.frame;
  out = a.out ++ record_of (filled (map part pieces) (values_for (map part pieces) a.frame));
}

-- an iteration in a slot makes the step that stands next
abbrev pub iteration_after : Code → ℕ → Next → Shared → Standing → After
iteration_after code slot (Load n k) x a =
    stays x (record a { frame = with_operand k a.frame (get_or x.cells n (pos 0)) })
iteration_after code slot (Store n v k) x a =
    stays (record x { cells = set x.cells n v })
    (record a { frame = going_on (without k a.frame.operands) a.frame })
iteration_after code slot (Print pieces k) x a = stays x (printed_own pieces.now k a)
iteration_after code slot (Await e d) x a =
    if nat_lt a.number (count_at x.order e + d)
    then stays x (record a { frame = going_on a.frame.operands a.frame })
    else parks slot e (a.number + 1 - d) (until_count e (a.number + 1 - d)) x a
iteration_after code slot (Advance e) x a =
    if count_at x.order e == a.number then stays (record x { order = advanced x.order e })
    (record a { frame = going_on a.frame.operands a.frame })
    else idle x a
iteration_after code slot (Retire n) x a =
    if count_at x.order 0 == a.number then leaves code n x a else waits_its_turn slot x a
iteration_after code slot (Report e line) x a = reported slot (Faulted e line) x a
iteration_after code slot (Stop line) x a = reported slot (Stopped line) x a
iteration_after code slot next x a = idle x a

-- ---- what a core keeps then

-- what stands in the iteration's place then
abbrev pub staying : Outcome → Standing → Option Standing
staying Leaves a = None
staying _ a = Some a

-- what the processors hold then
abbrev pub held_after : Outcome → ℕ → List (Option Who) → List (Option Who)
held_after Parks q hs = set hs q None
held_after Leaves q hs = set hs q None
held_after _ q hs = hs

-- processor q has made a step of the iteration that stands at a place
abbrev pub put_back : ℕ → ℕ → After → Kept → Kept
put_back q at y x = record x {
  shared = y.shared;
  iterations = set x.iterations at (staying y.outcome y.standing);
  held = held_after y.outcome q x.held;
}

-- ---- the same of main

-- what a step of main leaves
pub record MainAfter : Type 0 where
  pub outcome : Outcome
  pub shared : Shared
  pub input : Input
  pub main : Frame
  pub waiting : Option Wait

-- nothing of what is kept has changed
abbrev pub main_as : Outcome → Kept → MainAfter
main_as o x =
    record { outcome = o; shared = x.shared; input = x.input; main = x.main; waiting = x.waiting }

-- main goes on with this frame
abbrev pub main_stays : Frame → Kept → MainAfter
main_stays g x = record (main_as Stays x) { main = g }

-- main ends the run
abbrev pub main_ends : End → Kept → MainAfter
main_ends e x = record (main_as Ends x) { shared = record x.shared { ended = Some e } }

-- no iteration is open
abbrev pub none_open : List (Option Standing) → Bool
none_open [] = true
none_open (None ∷ xs) = none_open xs
none_open (Some a ∷ xs) = false

-- main opens a loop
abbrev pub opens : Open → Kept → MainAfter
opens l x = record (main_as Stays x) {
  shared = record x.shared { order = restarted x.shared.order; loop = Some l };
  main = going_on (without 2 x.main.operands) x.main;
}

-- the loop's variable gets its last value, unless that leaves the 64-bit integers
abbrev pub with_last : Code → Open → Result ℤ Fault → List ℤ → List ℤ
with_last code l (Ok v) cells =
    set_if (cell_number (slice_get code.variables (loop_at code l.number).variable) (pos 0)) v cells
with_last code l (Err e) cells = cells

-- main joins a loop whose iterations have all retired
abbrev pub closes : Code → ℕ → Open → Kept → MainAfter
closes code line l x = record (main_as Stays x) {
  shared = record x.shared {
    cells = with_last code l (in_range (index_at code l l.trips)) x.shared.cells;
    loop = None;
  };
  main = frame_joined (in_range (index_at code l l.trips)) line x.main;
}

-- main joins a loop, or is parked until its iterations have retired
abbrev pub joins : Code → ℕ → Option Open → Kept → MainAfter
joins code line None x = main_as Idle x
joins code line (Some l) x =
    if nat_le l.trips (count_at x.shared.order 0) then closes code line l x
    else record (main_as Parks x) {
      shared = record x.shared { order = parked x.shared.order 0 l.trips 0 };
      waiting = Some (until_retired l.trips);
    }

-- main makes the step that stands next
abbrev pub main_after : Code → Next → Kept → MainAfter
main_after code (Load n k) x =
    main_stays (with_operand k x.main (get_or x.shared.cells n (pos 0))) x
main_after code (Store n v k) x =
    record (main_stays (going_on (without k x.main.operands) x.main) x) {
      shared = record x.shared { cells = set x.shared.cells n v };
    }
main_after code (Print pieces k) x =
    record (main_stays (going_on (without k x.main.operands) x.main) x) {
      shared = record x.shared {
        output =
            x.shared.output
            ++ record_of (filled (map part pieces.now) (values_for (map part pieces.now) x.main));
      };
    }
main_after code (TakeRecord line) x =
    record (main_stays (frame_after (read_record x.input.records) line x.main) x) {
      input = input_after (read_record x.input.records) x.input;
    }
main_after code (TakeValue line) x =
    record (main_stays (frame_with (next_integer x.input.left x.input.records) line x.main) x) {
      input = input_behind (next_integer x.input.left x.input.records) x.input;
    }
main_after code DropRecord x =
    record (main_stays (going_on x.main.operands x.main) x) { input = record x.input { left = [] } }
main_after code (Opens l) x = if none_open x.iterations then opens l x else main_as Idle x
main_after code (Join line) x = joins code line x.shared.loop x
main_after code (Report e line) x = main_ends (Faulted e line) x
main_after code (Stop line) x = main_ends (Stopped line) x
main_after code Halt x = main_ends Done x
main_after code next x = main_as Idle x

-- processor q has made a step of main
abbrev pub put_main : ℕ → MainAfter → Kept → Kept
put_main q y x = record x {
  shared = y.shared;
  input = y.input;
  main = y.main;
  waiting = y.waiting;
  held = held_after y.outcome q x.held;
}

-- a step of the iteration may be made: it is in no place of the kernel, and none before it is
-- missing
pub record May (code : Code) (slot : ℕ) (x : Shared) (a : Standing) : Type 0 where
  pub kernel : IsKernel x.order
  pub counts : length x.order.counts ≡ 65
  pub slot_in_range : slot < x.order.slots
  pub nowhere : places slot x.order ≡ 0
  pub number : a.number < 2 ^ 128 - 1
  pub turn : count_at x.order 0 ≤ a.number
  pub cells : length x.cells ≡ count_of code.variables
