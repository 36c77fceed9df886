use Rattle.std.proofs.Common.{◌≡◌, ◌++◌, drop, map}
use Rattle.loop_tree.specs.TreeView.{loops_seen}
use Rattle.codegen.specs.Program.{Planned}
use Rattle.codegen.specs.Reports.{planned_in}
use Rattle.codegen.proofs.ranges.variables_of.Given as goal

abbrev pub invariant-loop-place : goal.invariant-loop-place
invariant-loop-place l =
    map (λ v. v.0) l.variables.items ++ map (λ (x : Planned). x.loop.head.variable.id) (planned_in (drop l.place (loops_seen l.tree)) (drop l.place l.reports))
    ≡ map (λ (x : Planned). x.loop.head.variable.id) (planned_in (loops_seen l.tree) l.reports)
