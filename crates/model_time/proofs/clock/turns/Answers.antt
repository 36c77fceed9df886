use Rattle.std.proofs.Common.{◌+◌, refl}
use Rattle.model_time.proofs.Recording.{noted}
use Rattle.model_time.proofs.Timing.{more_turns, same_on}
use Rattle.model_time.proofs.clock.turns.Goals as goal

pub loop-q-preserved : goal.loop-q-preserved
loop-q-preserved c = record {
  same = same_on c.args.run.now c.loop-q.run c.turn.new.run c.loop-q.invariant.same c.in_ok-turned.ensures.0;
  turns = more_turns c.args.run.now c.loop-q.run c.turn.new.run c.loop-q.q c.loop-q.figures c.counted-figures.result c.in_ok-turned.turned c.overlap.result (c.loop-q.q + 1) refl c.loop-q.invariant.same c.loop-q.invariant.turns c.in_ok-turned.ensures
      c.counted-figures.ensures c.overlap.ensures;
  records = noted c.loop-q.run c.turn.new.run c.loop-q.q c.in_ok-turned.turned c.args.kept.now c.loop-q.kept c.note.new.kept c.loop-q.invariant.records c.in_ok-turned.ensures c.in_ok-note.ensures.ok c.in_ok-note.ensures.kept;
}
