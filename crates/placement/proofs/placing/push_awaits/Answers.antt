use Rattle.std.proofs.Common.{◌++◌, map}
use Rattle.dependence.specs.PlanView.{plan_node}
use Rattle.placement.specs.Listed.{await_nodes}
use Rattle.placement.proofs.Appended.{await_next}
use Rattle.placement.proofs.placing.push_awaits.Goals as goal

pub loop-await_at-preserved : goal.loop-await_at-preserved
loop-await_at-preserved c =
    await_next c.loop-await_at.list.items c.push.new.self.items c.args.awaits.now c.loop-await_at.await_at-index (0, 0) (map plan_node c.args.list.now.items ++ await_nodes c.args.awaits.now)
    c.loop-await_at-test.true c.in_ok-push.ensures.items c.loop-await_at.invariant
