use Rattle.std.proofs.Common.{length, ◌-◌, ◌≡◌, None}
use Rattle.plan_check.specs.Flow.{further}
use Rattle.plan_check.proofs.Changes.{joining}
use Rattle.plan_check.proofs.lists.join_nears.Given as goal

abbrev pub invariant-loop-place : goal.invariant-loop-place
invariant-loop-place l = joining (λ a b. further a b) None l.nears l.others l.place ≡ joining (λ a b. further a b) None l.fn.nears l.others 0

abbrev pub decreases-loop-place : goal.decreases-loop-place
decreases-loop-place l = length l.nears - l.place
