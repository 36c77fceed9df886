use Rattle.engines.proofs.Explaining.{Telling}
use Rattle.engines.proofs.explained.tell_each.Given as goal

abbrev pub invariant-loop-place : goal.invariant-loop-place
invariant-loop-place g l = Telling l.reports l.place (g.W.Write.contents l.fn.out) l.fn.waiting.items (g.W.Write.contents l.out) l.waiting.items
