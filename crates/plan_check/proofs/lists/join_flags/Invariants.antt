use Rattle.std.proofs.Common.{length, ◌-◌, ◌≡◌, ◌&&◌, false}
use Rattle.plan_check.proofs.Changes.{joining}
use Rattle.plan_check.proofs.lists.join_flags.Given as goal

abbrev pub invariant-loop-place : goal.invariant-loop-place
invariant-loop-place l = joining (λ a b. a && b) false l.flags l.others l.place ≡ joining (λ a b. a && b) false l.fn.flags l.others 0

abbrev pub decreases-loop-place : goal.decreases-loop-place
decreases-loop-place l = length l.flags - l.place
