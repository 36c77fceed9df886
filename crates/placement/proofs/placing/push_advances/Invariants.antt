use Rattle.std.proofs.Common.{◌≡◌, ◌+◌, drop, map}
use Rattle.std.specs.Prelude.{◌++◌}
use Rattle.dependence.specs.PlanView.{plan_node}
use Rattle.placement.specs.Listed.{advance_nodes}
use Rattle.placement.proofs.placing.push_advances.Given as goal

abbrev pub invariant-loop-source : goal.invariant-loop-source
invariant-loop-source l =
    (l.event ≡ l.source-index + 1)
    × (map plan_node l.list.items ++ advance_nodes l.event (drop l.source-index l.sources) l.first l.behind
    ≡ map plan_node l.fn.list.items ++ advance_nodes 1 l.sources l.first l.behind)
