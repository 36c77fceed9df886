use Rattle.std.proofs.Common.{arith, rules, ◌≡◌, ◌++◌, ◌∙◌, map}
use Rattle.std.proofs.lemmas.Grind.{common_steps}
use Rattle.ast.specs.Tree.{arms}
use Rattle.ast.specs.View.{arm, block_view, head}
use Rattle.dependence.specs.PlanView.{arm_view, plan_node}
use Rattle.placement.specs.Listed.{awaited}
use Rattle.placement.proofs.Appended.{inner_next}
use Rattle.placement.proofs.Listings as listings
use Rattle.placement.proofs.placing.+inner.Goals as goal

pub inner_loop-returns : goal.inner_loop-returns
inner_loop-returns t c =
    c.made_loop.ensures
    ∙ listings.inner_loop c.args.spots.now.sources.items (awaited c.args.spots.now) c.args.line (head c.in_ok-copy.copy) (head c.args.head.now) c.args.statement c.in_ok-first.first (block_view c.args.range.now) (map plan_node c.in_ok-placed.placed.items) c.in_ok-copy.ensures c.in_ok-first.ensures c.in_ok-placed.ensures

pub inner_choice-returns : goal.inner_choice-returns
inner_choice-returns t c =
    c.made_choice.ensures
    ∙ listings.inner_choice c.args.spots.now.sources.items (awaited c.args.spots.now) c.args.statement c.in_ok-first.first (arms (map arm c.args.arms.now)) (map arm_view c.in_ok-placed.placed.items) c.in_ok-first.ensures c.in_ok-placed.ensures

pub inner_range-loop-node-preserved : goal.inner_range-loop-node-preserved
inner_range-loop-node-preserved t c = grind (arith, common_steps)

pub inner_arms-loop-arm-preserved : goal.inner_arms-loop-arm-preserved
inner_arms-loop-arm-preserved t c =
    let body : c.arm-item.result.body.items ≡ c.deref.result.now = search rules in
    inner_next c.args.spots.now.sources.items (awaited c.args.spots.now) c.loop-arm.placed.items c.push.new.self.items c.in_ok-inner_arm.field-0 c.args.arms.now c.loop-arm.arm-index c.arm-item.result c.deref.result.now c.loop-arm.statement c.in_ok-block_size.field-0 c.in_ok-statement.statement _
    c.loop-arm-test.true c.arm-item.is body c.in_ok-push.ensures.items c.in_ok-inner_arm.ensures c.in_ok-block_size.ensures c.in_ok-statement.ensures c.loop-arm.invariant
