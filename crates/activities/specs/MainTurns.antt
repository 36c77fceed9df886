-- An account of the code: main's own parts.
use Rattle.std.specs.Prelude.{◌≡◌, ◌<◌, ◌++◌, Bool, true, List, length, Option, map, option_map}
use Rattle.ast.specs.Record.{record_of}
use Rattle.ec_kernel.specs.View.{IsKernel, NoWaiter, places}
use Rattle.machine.specs.Code.{Code}
use Rattle.machine.specs.CodeView.{part}
use Rattle.machine.specs.Laid.{count_of}
use Rattle.machine.specs.Frame.{Frame}
use Rattle.machine.specs.FrameView.{frame_of}
use Rattle.machine.specs.Next.{values_for}
use Rattle.machine.specs.State.{Wait, Who}
use Rattle.machine.specs.View.{Input, filled}
use Rattle.machine.specs.declared.code.Piece.{Piece}
use Rattle.activities.specs.Parts.{Kept, Shared, Standing}
use Rattle.activities.specs.PartsView.{input_of, wait}
use Rattle.activities.specs.Turns.{MainAfter}
use Rattle.activities.specs.declared.parts.Main.{Main}
use Rattle.activities.specs.declared.turn.Outcome.{Outcome}

-- what is kept of main alone
pub record MainPart : Type 0 where
  pub frame : Frame
  pub waiting : Option Wait
  pub input : Input

-- what a `Main` stands for
abbrev pub main_part : Main → MainPart
main_part m =
    record { frame = frame_of m.frame; waiting = option_map wait m.wait; input = input_of m.input }

-- a record of main's goes out
abbrev pub printed_out : List Piece → Frame → Shared → Shared
printed_out pieces f x = record x {
  output = x.output ++ record_of (filled (map part pieces) (values_for (map part pieces) f));
}

-- what a core keeps, by its parts
abbrev pub kept_of : Shared → MainPart → List (Option Standing) → List (Option Who) → Kept
kept_of x m xs hs = record {
  shared = x;
  input = m.input;
  main = m.frame;
  waiting = m.waiting;
  iterations = xs;
  held = hs;
}

-- what a step of main leaves, by its parts
abbrev pub after_of : Outcome → Shared → MainPart → MainAfter
after_of o x m =
    record { outcome = o; shared = x; input = m.input; main = m.frame; waiting = m.waiting }

-- a step of main may be made: it is in no place of the kernel, and nobody waits where no iteration
-- is open
pub record MayLead (code : Code) (x : Shared) (none : Bool) : Type 0 where
  pub kernel : IsKernel x.order
  pub counts : length x.order.counts ≡ 65
  pub slot : 0 < x.order.slots
  pub nowhere : places 0 x.order ≡ 0
  pub alone : none ≡ true → NoWaiter x.order.waiters
  pub cells : length x.cells ≡ count_of code.variables
