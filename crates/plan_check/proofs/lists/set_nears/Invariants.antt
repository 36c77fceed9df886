use Rattle.std.proofs.Common.{length, ◌-◌, ◌≡◌, Some}
use Rattle.plan_check.proofs.Changes.{setting}
use Rattle.plan_check.proofs.lists.set_nears.Given as goal

abbrev pub invariant-loop-place : goal.invariant-loop-place
invariant-loop-place l = setting (Some 0) l.nears l.place ≡ setting (Some 0) l.fn.nears 0

abbrev pub decreases-loop-place : goal.decreases-loop-place
decreases-loop-place l = length l.nears - l.place
