use Rattle.std.proofs.Common.{◌≡◌, drop}
use Rattle.plan_check.specs.Claiming.{ascend}
use Rattle.plan_check.proofs.claims.ascend.Given as goal

abbrev pub invariant-loop-run : goal.invariant-loop-run
invariant-loop-run l = ascend l.first l.second (drop l.run-index l.runs) ≡ ascend 0 0 l.runs
