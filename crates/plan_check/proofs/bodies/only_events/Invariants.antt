use Rattle.std.proofs.Common.{◌≡◌, drop}
use Rattle.dependence.specs.PlanView.{plan_block}
use Rattle.plan_check.specs.GoodPlan.{only_events}
use Rattle.plan_check.proofs.bodies.only_events.Given as goal

abbrev pub invariant-loop-node : goal.invariant-loop-node
invariant-loop-node l = only_events (plan_block (drop l.node-index l.nodes)) ≡ only_events (plan_block l.nodes)
