use Rattle.engines.specs.Explained.{GrowsSome}
use Rattle.engines.proofs.explained.tell_runs.Given as goal

abbrev pub invariant-loop-run : goal.invariant-loop-run
invariant-loop-run g l = GrowsSome (g.W.Write.contents l.fn.out) l.fn.waiting.items (g.W.Write.contents l.out) l.waiting.items
