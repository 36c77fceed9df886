use Rattle.std.proofs.Common.{◌≡◌, ◌-◌, ◌≤◌, ◌++◌, List}
use Rattle.dependence.specs.Runs.{run}
use Rattle.dependence.specs.declared.relation.Relation.{Relation}
use Rattle.plan_check.specs.Checking.{claimed}
use Rattle.plan_check.proofs.Claimed.{Claim, from_place}
use Rattle.plan_check.proofs.claims.has.Given as goal

abbrev pub invariant-loop-place : goal.invariant-loop-place
invariant-loop-place l = record {
  within : l.place ≤ l.run.count;
  same : (ks : List Relation) (rest : List Claim) → claimed (from_place ks l.run l.place ++ rest) l.first l.second ≡ claimed (run ks l.run ++ rest) l.first l.second;
}

abbrev pub decreases-loop-place : goal.decreases-loop-place
decreases-loop-place l = l.run.count - l.place
