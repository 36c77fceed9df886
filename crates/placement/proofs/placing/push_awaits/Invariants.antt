use Rattle.std.proofs.Common.{◌≡◌, drop, map}
use Rattle.std.specs.Prelude.{◌++◌}
use Rattle.dependence.specs.PlanView.{plan_node}
use Rattle.placement.specs.Listed.{await_nodes}
use Rattle.placement.proofs.placing.push_awaits.Given as goal

abbrev pub invariant-loop-await_at : goal.invariant-loop-await_at
invariant-loop-await_at l =
    map plan_node l.list.items ++ await_nodes (drop l.await_at-index l.awaits)
    ≡ map plan_node l.fn.list.items ++ await_nodes l.awaits
