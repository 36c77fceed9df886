use Rattle.std.proofs.Common.{◌≤◌, ◌-◌}
use Rattle.replay.specs.Striding.{IsRun}
use Rattle.replay.proofs.legs.run_at.Given as goal

abbrev pub invariant-loop-steps : goal.invariant-loop-steps
invariant-loop-steps l = IsRun l.code.instructions.items l.place l.steps l.next × (l.steps ≤ l.most)

abbrev pub decreases-loop-steps : goal.decreases-loop-steps
decreases-loop-steps l = l.most - l.steps
