-- What the parts of a core stand for.
use Rattle.std.specs.Prelude.{◌≡◌, ℕ, ℤ, List, drop, Result, Ok, Err, option_map}
use Rattle.ast.specs.declared.fault.Fault.{Fault}
use Rattle.machine.specs.FrameView.{frame_of}
use Rattle.machine.specs.State.{Wait, until_count, until_retired}
use Rattle.machine.specs.View as machine
use Rattle.activities.specs.Parts as plain
use Rattle.activities.specs.declared.input.Input.{Input}
use Rattle.activities.specs.declared.parts.Iteration.{Iteration}
use Rattle.activities.specs.declared.parts.Shared.{Shared}
use Rattle.activities.specs.declared.parts.Until.{Until}
use Rattle.activities.specs.declared.parts.Until.TheVariants.{Count, Retired}

-- what is waited for
abbrev pub wait : Until → Wait
wait (Count e v) = until_count e v
wait (Retired v) = until_retired v

-- an open iteration
abbrev pub standing_of : Iteration → plain.Standing
standing_of a = record {
  number = a.number;
  frame = frame_of a.frame.value;
  out = a.out.items;
  wait = option_map wait a.wait;
}

-- what all activities share
abbrev pub shared_of : Shared → plain.Shared
shared_of x = record {
  cells = x.cells.items;
  order = x.kernel;
  output = x.output.items;
  loop = x.open;
  ended = x.ended;
}

-- the input: what is left of the record that was taken last, and the records behind it
abbrev pub input_of : Input → machine.Input
input_of i = record { left = drop i.given i.integers.items; records = i.records }

-- a record was taken, or a fault says why not
abbrev pub Took : Result (Unit {0}) Fault → Result (List ℤ × List (List ℕ)) Fault
    → machine.Input → machine.Input → Type 0
Took (Ok u) meant old new = meant ≡ Ok (new.left, new.records)
Took (Err e) meant old new = (meant ≡ Err e) × (new ≡ old)

-- an integer was taken
abbrev pub TookValue : Result ℤ Fault → Result (ℤ × List ℤ × List (List ℕ)) Fault
    → machine.Input → machine.Input → Type 0
TookValue (Ok v) meant old new = meant ≡ Ok (v, new.left, new.records)
TookValue (Err e) meant old new = (meant ≡ Err e) × (new ≡ old)
