use Rattle.std.proofs.Common.{ℕ, ◌<◌, ◌-◌}
use Rattle.activities.specs.Activities.{point_in}
use Rattle.activities.specs.Least.{IsReady}
use Rattle.activities.proofs.holding.Activities.least_ready.Given as goal

abbrev pub invariant-loop-k : goal.invariant-loop-k
invariant-loop-k l = (j : ℕ) → j < l.k → IsReady (point_in l.self).machine j → ⊥

abbrev pub decreases-loop-k : goal.decreases-loop-k
decreases-loop-k l = l.self.shared.kernel.ticket - l.k
