-- Accounts of the code: a step that was made, with the step that stood next.
use Rattle.std.specs.Prelude.{◌≡◌, ◌==◌, ℕ, ℤ, Bool, true, false, List, Option, Some}
use Rattle.ec_kernel.specs.View.{IsKernel}
use Rattle.machine.specs.Code.{Code}
use Rattle.machine.specs.Frame.{Frame}
use Rattle.machine.specs.Local.{Works}
use Rattle.machine.specs.declared.instr.Instr.{Instr}
use Rattle.machine.specs.Next.{Tells}
use Rattle.machine.specs.StoreView.{store_of}
use Rattle.machine.specs.Strides.{strides_past}
use Rattle.machine.specs.View.{view}
use Rattle.machine.specs.declared.code.Open.{Open}
use Rattle.machine.specs.declared.next.Next.{Next}
use Rattle.machine.specs.declared.next.Next.TheVariants.{Opens}
use Rattle.activities.specs.Core.{HaveIndices}
use Rattle.activities.specs.Parts.{Kept, Shared, Standing}
use Rattle.activities.specs.Told.{is_told}
use Rattle.activities.specs.Turns.{MainAfter, iteration_after, main_after, staying}
use Rattle.activities.specs.declared.turn.Outcome.{Outcome}
use Rattle.activities.specs.declared.turn.Outcome.TheVariants.{Idle}

-- whether a step was made
abbrev pub went : Outcome → Bool
went Idle = false
went _ = true

-- an iteration in a slot made its step, and this stands in its place then
pub record Turned (code : Code) (slot : ℕ) (x : Shared) (a : Standing) (o : Outcome)
    (y : Shared) (b : Option Standing) : Type 0 where
  pub next : Next
  pub told : Tells code a.frame (view code a.frame) next
  pub outcome : o ≡ (iteration_after code slot next x a).outcome
  pub shared : y ≡ (iteration_after code slot next x a).shared
  pub standing : b ≡ staying o (iteration_after code slot next x a).standing
  pub kernel : IsKernel y.order

-- main made its step
pub record Led (code : Code) (x : Kept) (y : MainAfter) : Type 0 where
  pub next : Next
  pub told : Tells code x.main (view code x.main) next
  pub after : y ≡ main_after code next x
  pub kernel : IsKernel y.shared.order
  pub indices : (l : Open) → next ≡ Opens l → HaveIndices code (Some l)

-- so many local instructions were made, or as many as stand next
pub record Working (code : List Instr) (n : ℕ) (done : Bool) (f g : Frame) : Type 0 where
  pub made : ℕ
  pub works : Works code n f made g
  pub all : done ≡ (made == n)

-- an iteration with another frame
abbrev pub with_frame : Frame → Standing → Standing
with_frame g a = record a { frame = g }

-- As many local instructions as stand next, at most n, were made of an iteration, and this
-- stands in its place then.
pub record MadeAt (code : List Instr) (n made : ℕ) (a : Standing)
    (b : Option Standing) : Type 0 where
  pub frame : Frame
  pub works : Works code n a.frame made frame
  pub standing : b ≡ Some (with_frame frame a)

-- the same of an iteration, and this stands in its place then
pub record WorkedAt (code : List Instr) (n : ℕ) (done : Bool) (a : Standing)
    (b : Option Standing) : Type 0 where
  pub frame : Frame
  pub working : Working code n done a.frame frame
  pub standing : b ≡ Some (with_frame frame a)

-- So many strides were made of an iteration, on these cells, past awaits that have been told by
-- these counts, and this stands in its place then.
pub record StrodeAt (code : Code) (counts : List ℕ) (made : ℕ) (cells : List ℤ) (a : Standing)
    (ds : List ℤ) (b : Option Standing) : Type 0 where
  pub frame : Frame
  pub leads : strides_past (is_told counts a.number) code made
      (record { frame = a.frame; store = store_of code.variables cells })
      ≡ Some (record { frame = frame; store = store_of code.variables ds })
  pub standing : b ≡ Some (with_frame frame a)
