-- An account of the code: what a core keeps after something was taken up.
use Rattle.std.specs.Prelude.{ℕ, ◌+◌, ◌<◌, ◌%◌, nat_le, Bool, false}
use Rattle.std.specs.Prelude.{length, set, Option, Some, None, []}
use Rattle.ec_kernel.specs.View.{View, count_at, without}
use Rattle.machine.specs.Code.{Code}
use Rattle.machine.specs.State.{Wait, until_count, until_retired, Who, the_main, iteration}
use Rattle.machine.specs.View.{begin}
use Rattle.machine.specs.declared.code.Open.{Open}
use Rattle.activities.specs.Parts.{Kept, Standing}

-- whether what an activity is parked on, if it is, has been reached
abbrev pub is_due : View → Option Wait → Bool
is_due x None = false
is_due x (Some (until_count e v)) = nat_le v (count_at x e)
is_due x (Some (until_retired v)) = nat_le v (count_at x 0)

-- a slot is taken from the ready list
abbrev pub no_longer_ready : ℕ → View → View
no_longer_ready slot x = record x { ready = without slot x.ready }

-- processor q holds an activity
abbrev pub holding : ℕ → Who → Kept → Kept
holding q u x = record x { held = set x.held q (Some u) }

-- main is taken up
abbrev pub main_up : ℕ → Kept → Kept
main_up q x = record (holding q the_main x) {
  shared = record x.shared { order = no_longer_ready 0 x.shared.order };
  waiting = None;
}

-- the iteration that stands at a place
abbrev pub iteration_up : ℕ → ℕ → Standing → Kept → Kept
iteration_up q at a x = record (holding q (iteration a.number) x) {
  shared = record x.shared { order = no_longer_ready (1 + at) x.shared.order };
  iterations = set x.iterations at (Some (record a { wait = None }));
}

-- iteration k of an open loop as it begins
abbrev pub begun : Code → Open → ℕ → Standing
begun code l k = record { number = k; frame = begin code l k; out = []; wait = None }

-- the next iteration of an open loop begins
abbrev pub ticket_up : Code → ℕ → ℕ → Open → Kept → Kept
ticket_up code s q l x = record (holding q (iteration x.shared.order.ticket) x) {
  shared = record x.shared { order = record x.shared.order { ticket = x.shared.order.ticket + 1 } };
  iterations =
      set x.iterations (x.shared.order.ticket % s) (Some (begun code l x.shared.order.ticket));
}

-- the event that an activity is parked on, if it is, has a count
abbrev pub IsCounted : View → Option Wait → Type 0
IsCounted x (Some (until_count e v)) = e < length x.counts
IsCounted x _ = Unit {0}

-- an iteration that isn't parked any more
abbrev pub unparked : Standing → Standing
unparked a = record a { wait = None }
