-- What a core keeps, and the state of the machine that it stands for.
use Rattle.std.specs.Prelude.{ℕ, ℤ, ◌%◌, ◌==◌, eqb, cond, if◌then◌else◌}
use Rattle.std.specs.Prelude.{List, get_or, Option, Some, None}
use Rattle.ast.specs.declared.fault.End.{End}
use Rattle.ec_kernel.specs.View as kernel
use Rattle.machine.specs.Frame.{Frame}
use Rattle.machine.specs.State.{Active, Machine, Wait, Who}
use Rattle.machine.specs.StoreView.{store_of}
use Rattle.machine.specs.View.{Input}
use Rattle.machine.specs.declared.code.Open.{Open}
use Rattle.machine.specs.declared.code.Variable.{Variable}
use Rattle.activities.specs.Points.{Point}

-- an open iteration: its number, its frame and output, and what it is parked on
pub record Standing : Type 0 where
  pub number : ℕ
  pub frame : Frame
  pub out : List ℕ
  pub wait : Option Wait

-- what all activities share; the counts and the ticket stand in the kernel
pub record Shared : Type 0 where
  pub cells : List ℤ
  pub order : kernel.View
  pub output : List ℕ
  pub loop : Option Open
  pub ended : Option End

-- Iteration k of s that may be open stands at k mod s.
pub record Kept : Type 0 where
  pub shared : Shared
  pub input : Input
  pub main : Frame
  pub waiting : Option Wait
  pub iterations : List (Option Standing)
  pub held : List (Option Who)

-- ---- maps, by lists

unfoldable pub held_of : {A : Type 0} → List (Option A) → ℕ → Option A
held_of xs = λ i. get_or xs i None

-- what stands in a place, if that is iteration k
abbrev pub numbered : ℕ → Option Standing → Option Standing
numbered k None = None
numbered k (Some a) = if a.number == k then Some a else None

unfoldable pub standing : List (Option Standing) → ℕ → ℕ → Option Standing
standing xs s = λ k. numbered k (get_or xs (k % s) None)

-- an open iteration as the machine's state has it
abbrev pub active : Option Standing → Option (Active Frame)
active None = None
active (Some a) = Some (record { frame = a.frame; out = a.out })

-- what the iteration in a place is parked on, if it is
abbrev pub wait_in : Option Standing → Option Wait
wait_in None = None
wait_in (Some a) = a.wait

-- the counts of events from 1 on
unfoldable pub counts_of : List ℕ → ℕ → ℕ
counts_of xs = λ e. cond (eqb e 0) 0 (get_or xs e 0)

-- the state of the machine that is kept so
abbrev pub machine_of : List Variable → ℕ → Kept → Machine
machine_of xs s x = record {
  store = store_of xs x.shared.cells;
  input = x.input;
  output = x.shared.output;
  counts = counts_of x.shared.order.counts;
  retired = get_or x.shared.order.counts 0 0;
  ticket = x.shared.order.ticket;
  loop = x.shared.loop;
  main = x.main;
  waiting = x.waiting;
  iterations = λ k. active (standing x.iterations s k);
  parked = λ k. wait_in (standing x.iterations s k);
  held = held_of x.held;
  ended = x.shared.ended;
}

-- the point that is kept so: that state, and the kernel beside it
abbrev pub point_of : List Variable → ℕ → Kept → Point
point_of xs s x = record { machine = machine_of xs s x; order = x.shared.order }
