use Rattle.engines.proofs.Explaining.{falls_short}
use Rattle.engines.proofs.explained.hand.Goals as goal

pub returns-in-Err-clause-err : goal.returns-in-Err-clause-err
returns-in-Err-clause-err g c = falls_short (g.W.Write.contents c.args.out.now) (g.W.Write.contents c.hand_on.new.writer) c.args.waiting.now.items c.in-Err.ensures.err
