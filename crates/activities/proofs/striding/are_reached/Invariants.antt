use Rattle.std.proofs.Common.{ℕ, ◌≤◌, ◌<◌, ◌-◌, get_or, length}
use Rattle.activities.proofs.striding.are_reached.Given as goal

abbrev pub invariant-loop-event : goal.invariant-loop-event
invariant-loop-event l = (l.event ≤ length l.seen) × ((e : ℕ) → e < l.event → get_or l.seen e 0 ≤ get_or l.kernel.counts e 0)

abbrev pub decreases-loop-event : goal.decreases-loop-event
decreases-loop-event l = length l.seen - l.event
