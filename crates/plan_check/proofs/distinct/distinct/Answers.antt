use Rattle.std.proofs.Common.{refl}
use Rattle.plan_check.proofs.EachOnce.{all_added, next_added}
use Rattle.plan_check.proofs.distinct.distinct.Goals as goal

pub loop-event-preserved : goal.loop-event-preserved
loop-event-preserved c = λ test. next_added test c.args.named.now c.loop-event.event-index _ _ _ _ _ c.loop-event-test.true refl (c.in_ok-add_event.ensures test) (c.loop-event.invariant test)

pub returns : goal.returns
returns c = λ test. all_added test c.args.named.now c.loop-event.event-index _ _ c.loop-event-test.false (c.loop-event.invariant test)
