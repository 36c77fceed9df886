-- What holds of all that a core keeps.
use Rattle.std.specs.Prelude.{◌≡◌, ◌<◌, ◌≤◌, ◌+◌, ◌%◌, ◌^◌, ℕ, true}
use Rattle.std.specs.Prelude.{length, get_or, Option, Some, None}
use Rattle.ast.specs.Exact.{fits}
use Rattle.ec_kernel.specs.View.{IsKernel, count_at}
use Rattle.machine.specs.Code.{Code}
use Rattle.machine.specs.Laid.{count_of}
use Rattle.machine.specs.State.{Who, the_main, iteration}
use Rattle.machine.specs.View.{index_at}
use Rattle.machine.specs.declared.code.Open.{Open}
use Rattle.activities.specs.Parts.{Kept, Standing, held_of, wait_in}
use Rattle.activities.specs.Waiting.{Stands}

-- iteration k stands in its place and isn't parked
pub record IsRunning (s k : ℕ) (x : Kept) : Type 0 where
  pub standing : Standing
  pub here : get_or x.iterations (k % s) None ≡ Some standing
  pub number : standing.number ≡ k
  pub wait : standing.wait ≡ None

-- in each iteration of an open loop its variable has a 64-bit integer
abbrev pub HaveIndices : Code → Option Open → Type 0
HaveIndices code None = Unit {0}
HaveIndices code (Some l) = (k : ℕ) → k < l.trips → fits (index_at code l k) ≡ true

-- What holds of what a core keeps, where s iterations may be open. The kernel is one, and has a
-- slot for main and s for iterations, a count of those that have retired and one for each of 64
-- events; the ticket is at least the first of these counts and has 128 bits. Each cell of the code
-- has a value, and there are s places for open iterations.
pub record IsCore (code : Code) (s : ℕ) (x : Kept) : Type 0 where
  pub some : 0 < s
  pub kernel : IsKernel x.shared.order
  pub slots : x.shared.order.slots ≡ 1 + s
  pub counts : length x.shared.order.counts ≡ 65
  pub ticket : x.shared.order.ticket < 2 ^ 128
  pub turn : count_at x.shared.order 0 ≤ x.shared.order.ticket
  pub cells : length x.shared.cells ≡ count_of code.variables
  pub indices : HaveIndices code x.shared.loop
  pub room : length x.iterations ≡ s
  -- the kernel has each activity where it belongs, and no slot besides
  pub main : Stands x.shared.order 0 x.waiting
  pub each : (j : ℕ) → j < s → Stands x.shared.order (1 + j) (wait_in (get_or x.iterations j None))
  -- each open iteration stands in its place, has not retired and has had its ticket
  pub numbers : (j : ℕ) (a : Standing) → get_or x.iterations j None ≡ Some a → (a.number % s ≡ j)
      × (count_at x.shared.order 0 ≤ a.number) × (a.number < x.shared.order.ticket)
  -- who is held isn't parked, and no two processors hold one activity
  pub leads : (q : ℕ) → held_of x.held q ≡ Some the_main → x.waiting ≡ None
  pub runs : (q k : ℕ) → held_of x.held q ≡ Some (iteration k) → IsRunning s k x
  pub apart : (q r : ℕ) (u : Who) → held_of x.held q ≡ Some u → held_of x.held r ≡ Some u → q ≡ r
