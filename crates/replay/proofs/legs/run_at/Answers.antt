use Rattle.std.proofs.Common.{arith, sym, ◌∙◌}
use Rattle.replay.proofs.Pathways.{is_true, run_on}
use Rattle.replay.proofs.legs.run_at.Goals as goal

pub loop-steps-preserved : goal.loop-steps-preserved
loop-steps-preserved c = (
  run_on c.args.code.now.instructions.items c.args.place c.loop-steps.steps c.loop-steps.next c.in-Some.ahead c.loop-steps.invariant.0 (sym c.ahead_at.ensures ∙ c.in-Some.is) (is_true c.in-Some.ahead.local c.if-not-ahead.false),
  omega (arith, c.loop-steps-test.true),
)
