use Rattle.std.proofs.Common.{arith, rules, ◌≡◌, None}
use Rattle.std.proofs.lemmas.Grind.{common_steps}
use Rattle.placement.proofs.Passed.{none_read}
use Rattle.placement.proofs.hindering.+reads.Goals as goal

pub read_in-loop-node-preserved : goal.read_in-loop-node-preserved
read_in-loop-node-preserved t c = grind (arith, common_steps)

pub read_in_arms-loop-arm-preserved : goal.read_in_arms-loop-arm-preserved
read_in_arms-loop-arm-preserved t c =
    let body : c.arm-item.result.body.items ≡ c.deref.result.now = search rules in
    let none : c.read_in-found.result ≡ None = search rules in
    none_read c.args.arms.now c.loop-arm.arm-index c.arm-item.result c.deref.result.now c.read_in-found.result _ c.loop-arm-test.true c.arm-item.is body c.read_in-found.ensures none c.loop-arm.invariant
