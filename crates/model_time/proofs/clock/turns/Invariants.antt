use Rattle.unrecorded.specs.View.{IsSameRun, point_at}
use Rattle.model_time.specs.Records.{AlsoRecords}
use Rattle.model_time.specs.Units.{Turns}
use Rattle.model_time.proofs.clock.turns.Given as goal

abbrev pub invariant-loop-q : goal.invariant-loop-q
invariant-loop-q l = record {
  same : IsSameRun l.fn.run l.run;
  turns : Turns l.fn.run.code l.fn.run.slots l.q (point_at l.fn.run) l.figures (point_at l.run);
  records : AlsoRecords l.fn.kept l.run l.kept;
}
