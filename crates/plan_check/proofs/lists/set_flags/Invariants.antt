use Rattle.std.proofs.Common.{length, ◌-◌, ◌≡◌, true}
use Rattle.plan_check.proofs.Changes.{setting}
use Rattle.plan_check.proofs.lists.set_flags.Given as goal

abbrev pub invariant-loop-place : goal.invariant-loop-place
invariant-loop-place l = setting true l.flags l.place ≡ setting true l.fn.flags 0

abbrev pub decreases-loop-place : goal.decreases-loop-place
decreases-loop-place l = length l.flags - l.place
