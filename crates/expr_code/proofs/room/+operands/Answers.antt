use Rattle.expr_code.proofs.Counting.{further_done, kept_done}
use Rattle.expr_code.proofs.room.+operands.Goals as goal

pub further-returns : goal.further-returns
further-returns t c = further_done c.args.arguments.now c.loop-number.number c.loop-number.most c.loop-number-test.false c.loop-number.invariant.2 c.loop-number.invariant.0

pub kept-returns : goal.kept-returns
kept-returns t c = kept_done c.args.expressions.now c.loop-number.number c.loop-number.most c.loop-number-test.false c.loop-number.invariant.0
