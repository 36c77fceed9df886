use Rattle.std.proofs.Common.{◌-◌, arith}
use Rattle.replay.proofs.Noting.{left_less}
use Rattle.replay.proofs.striding.cut.Goals as goal

pub loop-left-preserved : goal.loop-left-preserved
loop-left-preserved c = (
  left_less c.args.planned c.loop-left.left (c.loop-left.left - 1) c.args.schedule.now c.loop-left.schedule c.shorten.new.self (omega (arith, c.loop-left-test.true)) c.loop-left.invariant.3
      c.loop-left.invariant.0 c.shorten.ensures.burst c.shorten.ensures.share,
  c.shorten.ensures.kept,
  omega (arith, c.loop-left-test.true),
  omega (arith, c.loop-left.invariant.3),
)
