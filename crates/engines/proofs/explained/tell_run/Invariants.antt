use Rattle.engines.specs.Explained.{GrowsSome}
use Rattle.engines.proofs.explained.tell_run.Given as goal

abbrev pub invariant-loop-part : goal.invariant-loop-part
invariant-loop-part g l = GrowsSome (g.W.Write.contents l.fn.out) l.fn.waiting.items (g.W.Write.contents l.out) l.waiting.items
