use Rattle.processors.specs.Telling.{Shows}
use Rattle.processors.proofs.running.take_turns.Given as goal

abbrev pub invariant-loop : goal.invariant-loop
invariant-loop g l = Shows g.C.Call.text l.told.shown (g.W.Write.contents l.fn.out) (g.W.Write.contents l.out)
