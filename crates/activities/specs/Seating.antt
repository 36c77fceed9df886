-- An iteration that a processor has begun, and that stands in no place yet.
use Rattle.std.specs.Prelude.{◌≡◌, ◌<◌, ◌+◌, ◌-◌, ◌^◌, ℕ, [], Option, Some, None}
use Rattle.std.specs.Vec.{with_item}
use Rattle.ec_kernel.specs.View.{count_at}
use Rattle.machine.specs.declared.code.Open.{Open}
use Rattle.activities.specs.declared.holding.Activities.{Activities}
use Rattle.activities.specs.declared.holding.Holder.{Holder}
use Rattle.activities.specs.declared.holding.Holder.TheVariants as holders
use Rattle.activities.specs.declared.parts.Iteration.{Iteration}
use Rattle.activities.specs.declared.turn.Outcome.{Outcome}
use Rattle.activities.specs.declared.turn.Outcome.TheVariants.{Stays, Parks, Leaves}

-- what stands in its place after a step that came to this
abbrev pub placed : Outcome → Iteration → Option Iteration
placed Leaves it = None
placed _ it = Some it

-- what the processor holds then
abbrev pub holds : Outcome → Iteration → (place : ℕ) → Option Holder
holds Parks it place = None
holds Leaves it place = None
holds _ it place = Some (holders.Iteration it.number place)

-- activities with this iteration, after a step of processor q that came to this
abbrev pub seat : Outcome → ℕ → (place : ℕ) → Iteration → Activities → Activities
seat o q place it x = record x {
  iterations = with_item x.iterations place (placed o it);
  held = with_item x.held q (holds o it place);
}

-- the same where the processor holds the iteration
abbrev pub seated : ℕ → (place : ℕ) → Iteration → Activities → Activities
seated q place it x = seat Stays q place it x

-- the next iteration of an open loop may begin, and nobody is ready
pub record MayBegin (x : Activities) (l : Open) : Type 0 where
  pub going : x.shared.ended ≡ None
  pub ready : x.shared.kernel.ready ≡ []
  pub loop : x.shared.open ≡ Some l
  pub few : x.shared.kernel.ticket < l.trips
  pub near : x.shared.kernel.ticket < count_at x.shared.kernel 0 + x.slots
  pub ticket : x.shared.kernel.ticket < 2 ^ 128 - 1
