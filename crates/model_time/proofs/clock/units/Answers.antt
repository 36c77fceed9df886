use Rattle.std.proofs.Common.{arith}
use Rattle.model_time.proofs.Leaving.{left_less, stuck}
use Rattle.model_time.proofs.Recording.{also}
use Rattle.model_time.proofs.Timing.{more_units}
use Rattle.model_time.proofs.clock.units.Goals as goal

pub loop-left-preserved : goal.loop-left-preserved
loop-left-preserved c = record {
  units = more_units c.args.run.now c.loop-left.run c.unit.new.run c.in_ok-steps.field-0 c.args.totals.now.program c.loop-left.totals.program c.unit.new.totals.program c.args.totals.now.loops.items c.loop-left.totals.loops.items c.unit.new.totals.loops.items
      c.loop-left.invariant.units c.in_ok-steps.ensures.unit;
  records = also c.loop-left.run c.unit.new.run c.args.kept.now c.loop-left.kept c.unit.new.kept c.loop-left.invariant.records c.in_ok-steps.ensures.records;
  most = left_less c.args.most c.loop-left.left c.saturating_add-made.result c.saturating_sub-left.result c.loop-left.totals.program c.in_ok-steps.field-0 c.unit.new.totals.program (omega (arith, c.ranges.most.fits)) c.loop-left.invariant.most c.saturating_add-made.ensures
      c.saturating_sub-left.ensures c.in_ok-steps.ensures.unit.1.2;
}

pub returns-then-made-eq0-clause-units : goal.returns-then-made-eq0-clause-units
returns-then-made-eq0-clause-units c =
    more_units c.args.run.now c.loop-left.run c.unit.new.run c.in_ok-steps.field-0 c.args.totals.now.program c.loop-left.totals.program c.unit.new.totals.program c.args.totals.now.loops.items c.loop-left.totals.loops.items c.unit.new.totals.loops.items
    c.loop-left.invariant.units c.in_ok-steps.ensures.unit

pub returns-then-made-eq0-clause-left : goal.returns-then-made-eq0-clause-left
returns-then-made-eq0-clause-left c =
    stuck c.loop-left.run c.unit.new.run c.args.most c.saturating_add-made.result c.in_ok-steps.field-0 c.loop-left.totals.program c.unit.new.totals.program c.loop-left.totals.loops.items c.unit.new.totals.loops.items c.in_ok-steps.ensures.unit c.saturating_add-made.ensures
    c.if-made-eq0.true
