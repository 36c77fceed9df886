use Rattle.std.proofs.Common.{arith, rules, ◌≡◌, None, map}
use Rattle.std.proofs.lemmas.Grind.{common_steps}
use Rattle.ast.specs.View.{letters}
use Rattle.placement.specs.Hindering.{shown}
use Rattle.placement.proofs.Passed.{none_shared}
use Rattle.placement.proofs.hindering.+variables.Goals as goal

pub shared_in-loop-node-preserved : goal.shared_in-loop-node-preserved
shared_in-loop-node-preserved t c = grind (arith, common_steps)

pub shared_in_arms-loop-arm-preserved : goal.shared_in_arms-loop-arm-preserved
shared_in_arms-loop-arm-preserved t c =
    let body : c.arm-item.result.body.items ≡ c.deref.result.now = search rules in
    let none : shown c.shared_in-found.result ≡ None = search rules in
    none_shared (map letters c.args.names.now) c.args.arms.now c.loop-arm.arm-index c.arm-item.result c.deref.result.now (shown c.shared_in-found.result) _ c.loop-arm-test.true c.arm-item.is body c.shared_in-found.ensures none c.loop-arm.invariant
