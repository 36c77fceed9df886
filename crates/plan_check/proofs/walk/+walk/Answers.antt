use Rattle.std.proofs.Common.{rules, ◌≡◌, ◌∙◌, ◌+◌, ◌≤◌, List, ap, drop, length, map, refl}
use Rattle.std.proofs.lemmas.List.{drop_all}
use Rattle.ast.specs.View.{letters, optional_term}
use Rattle.dependence.specs.Plan.{PlanArms}
use Rattle.dependence.specs.PlanView.{arm_view, arms, plan_block}
use Rattle.dependence.specs.declared.plan.PlanArm.{PlanArm}
use Rattle.plan_check.specs.KnownView.{known as known_of}
use Rattle.plan_check.specs.SeenView.{seen as seen_of}
use Rattle.plan_check.specs.Walking.{known_arms, seen_arms}
use Rattle.plan_check.proofs.Passing.{arm_here, arm_known, arm_seen}
use Rattle.plan_check.proofs.walk.+walk.Goals as goal

pub pass_arms-loop-arm-preserved : goal.pass_arms-loop-arm-preserved
pass_arms-loop-arm-preserved t c =
    let ps = map letters c.args.privates.now in
    let xs = c.args.arms.now in
    let i = c.loop-arm.arm-index in
    let a = c.arm-item.result in
    let o = optional_term a.condition in
    let body : a.body.items ≡ c.deref.result.now = search rules in
    let b = plan_block c.deref.result.now in
    let k = known_of c.loop-arm.known in
    let inner = known_of c.in_ok-branch.branch in
    let next = known_of c.behind.new.known in
    let tested = seen_of c.pass_optional.new.seen in
    let here = arm_here xs i a a.condition c.deref.result.now c.loop-arm-test.true c.arm-item.is refl body in
    record {
      seen = λ (last : PlanArms). arm_seen ps a.line o b (arms (map arm_view (drop (i + 1) xs)) last) (arms (map arm_view (drop i xs)) last) k inner next (seen_of c.loop-arm.seen) tested (seen_of c.pass_block.new.seen) _
          (here last) c.in_ok-pass_optional.ensures c.in_ok-branch.ensures c.in_ok-pass_block.ensures.seen c.behind.ensures (c.loop-arm.invariant.seen last);
      known = λ (last : PlanArms). arm_known ps a.line o b (arms (map arm_view (drop (i + 1) xs)) last) (arms (map arm_view (drop i xs)) last) k inner (known_of c.pass_block.new.known) next (known_of c.loop-arm.ended) (known_of c.join.new.self) _
          (here last) c.in_ok-branch.ensures c.in_ok-pass_block.ensures.known c.join.ensures c.behind.ensures (c.loop-arm.invariant.known last);
    }

pub pass_arms-returns-clause-seen : goal.pass_arms-returns-clause-seen
pass_arms-returns-clause-seen t c =
    let ended : length c.args.arms.now ≤ c.loop-arm.arm-index = search rules in
    λ (last : PlanArms). c.loop-arm.invariant.seen last
    ∙ ap (λ (as_list : List PlanArm). seen_arms (map letters c.args.privates.now) (arms (map arm_view as_list) last) (known_of c.loop-arm.known) (seen_of c.loop-arm.seen)) (drop_all c.loop-arm.arm-index c.args.arms.now ended)

pub pass_arms-returns-clause-known : goal.pass_arms-returns-clause-known
pass_arms-returns-clause-known t c =
    let ended : length c.args.arms.now ≤ c.loop-arm.arm-index = search rules in
    λ (last : PlanArms). c.loop-arm.invariant.known last
    ∙ ap (λ (as_list : List PlanArm). known_arms (map letters c.args.privates.now) (arms (map arm_view as_list) last) (known_of c.loop-arm.ended) (known_of c.loop-arm.known)) (drop_all c.loop-arm.arm-index c.args.arms.now ended)
