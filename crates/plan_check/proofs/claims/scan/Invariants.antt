use Rattle.std.proofs.Common.{◌≡◌, drop}
use Rattle.dependence.specs.Runs.{runs}
use Rattle.plan_check.specs.Checking.{claimed}
use Rattle.plan_check.proofs.claims.scan.Given as goal

abbrev pub invariant-loop-run : goal.invariant-loop-run
invariant-loop-run l = claimed (runs l.relations.different.items (drop l.run-index l.runs)) l.first l.second ≡ claimed (runs l.relations.different.items l.runs) l.first l.second
