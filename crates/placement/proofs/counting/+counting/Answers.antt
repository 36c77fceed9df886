use Rattle.std.proofs.Common.{arith, rules, ◌≡◌}
use Rattle.std.proofs.lemmas.Grind.{common_steps}
use Rattle.placement.proofs.Appended.{counted_next}
use Rattle.placement.proofs.counting.+counting.Goals as goal

pub block_size-loop-node-preserved : goal.block_size-loop-node-preserved
block_size-loop-node-preserved t c = grind (arith, common_steps)

pub arms_size-loop-arm-preserved : goal.arms_size-loop-arm-preserved
arms_size-loop-arm-preserved t c =
    let body : c.arm-item.result.body.items ≡ c.deref.result.now = search rules in
    counted_next c.args.arms.now c.loop-arm.arm-index c.arm-item.result c.deref.result.now c.loop-arm.size c.in_ok-block_size.field-0 c.in_ok-size.size _ c.loop-arm-test.true c.arm-item.is body c.in_ok-block_size.ensures c.in_ok-size.ensures c.loop-arm.invariant
