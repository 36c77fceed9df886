use Rattle.std.proofs.Common.{◌≡◌, map, drop}
use Rattle.ast.specs.View.{letters}
use Rattle.dependence.specs.Plan.{PlanArms}
use Rattle.dependence.specs.PlanView.{arm_view, arms, plan_block}
use Rattle.plan_check.specs.KnownView.{known as known_of}
use Rattle.plan_check.specs.SeenView.{seen as seen_of}
use Rattle.plan_check.specs.Walking as spec
use Rattle.plan_check.proofs.walk.+walk.Given as goal

abbrev pub invariant-pass_block-loop-node : goal.invariant-pass_block-loop-node
invariant-pass_block-loop-node l = record {
  seen : spec.seen_block (map letters l.privates) (plan_block (drop l.node-index l.nodes)) (known_of l.known) (seen_of l.seen)
      ≡ spec.seen_block (map letters l.privates) (plan_block l.nodes) (known_of l.fn.known) (seen_of l.fn.seen);
  known : spec.known_block (map letters l.privates) (plan_block (drop l.node-index l.nodes)) (known_of l.known)
      ≡ spec.known_block (map letters l.privates) (plan_block l.nodes) (known_of l.fn.known);
}

abbrev pub invariant-pass_arms-loop-arm : goal.invariant-pass_arms-loop-arm
invariant-pass_arms-loop-arm l = record {
  seen : (last : PlanArms) → spec.seen_arms (map letters l.privates) (arms (map arm_view l.arms) last) (known_of l.fn.known) (seen_of l.fn.seen)
      ≡ spec.seen_arms (map letters l.privates) (arms (map arm_view (drop l.arm-index l.arms)) last) (known_of l.known) (seen_of l.seen);
  known : (last : PlanArms) → spec.known_arms (map letters l.privates) (arms (map arm_view l.arms) last) (known_of l.fn.ended) (known_of l.fn.known)
      ≡ spec.known_arms (map letters l.privates) (arms (map arm_view (drop l.arm-index l.arms)) last) (known_of l.ended) (known_of l.known);
}
