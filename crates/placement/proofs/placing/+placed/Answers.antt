use Rattle.std.proofs.Common.{arith, rules, ◌≡◌, ◌++◌, ◌∙◌, ap, map}
use Rattle.std.proofs.lemmas.Grind.{common_steps}
use Rattle.std.specs.Prelude.{◌+◌}
use Rattle.ast.specs.Tree.{arms}
use Rattle.ast.specs.View.{arm}
use Rattle.dependence.specs.PlanView.{arm_view, nodes_of, plan_node}
use Rattle.placement.specs.Listed.{awaited}
use Rattle.placement.proofs.Appended.{placed_next}
use Rattle.placement.proofs.Listings as listings
use Rattle.placement.proofs.placing.+placed.Goals as goal

pub placed_choice-returns : goal.placed_choice-returns
placed_choice-returns t c =
    c.made_choice.ensures
    ∙ listings.placed_choice c.args.spots.now.sources.items (awaited c.args.spots.now) c.args.statement c.in_ok-first.first c.in_ok-behind.behind (arms (map arm c.args.arms.now)) (map arm_view c.in_ok-placed.placed.items) (nodes_of (λ v. map plan_node v.items) c.in_ok-made.made) c.in_ok-first.ensures (c.in_ok-behind.ensures ∙ ap (λ n. c.in_ok-first.first + n) c.in_ok-size.ensures) c.in_ok-placed.ensures c.in_ok-made.ensures

pub open_range-loop-node-preserved : goal.open_range-loop-node-preserved
open_range-loop-node-preserved t c = grind (arith, common_steps)

pub placed_arms-loop-arm-preserved : goal.placed_arms-loop-arm-preserved
placed_arms-loop-arm-preserved t c =
    let body : c.arm-item.result.body.items ≡ c.deref.result.now = search rules in
    placed_next c.args.spots.now.sources.items (awaited c.args.spots.now) c.args.first c.args.behind c.loop-arm.placed.items c.push.new.self.items c.in_ok-placed_arm.field-0 c.args.arms.now c.loop-arm.arm-index c.arm-item.result c.deref.result.now c.loop-arm.is_open c.stays_open-is_open.result c.loop-arm.statement c.in_ok-block_size.field-0 c.in_ok-statement.statement _
    c.loop-arm-test.true c.arm-item.is body c.in_ok-push.ensures.items c.in_ok-placed_arm.ensures c.stays_open-is_open.ensures c.in_ok-block_size.ensures c.in_ok-statement.ensures c.loop-arm.invariant
