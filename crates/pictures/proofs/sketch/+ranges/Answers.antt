use Rattle.pictures.proofs.Sketching.{on_ok, same_twice}
use Rattle.pictures.proofs.sketch.+ranges.Goals as goal

pub add_arms-loop-arm-preserved : goal.add_arms-loop-arm-preserved
add_arms-loop-arm-preserved t c = record {
  same =
      same_twice c.args.sketch.now c.add_row.new.self c.add_range.new.sketch
      (same_twice c.args.sketch.now c.loop-arm.sketch c.add_row.new.self c.loop-arm.invariant.same c.add_row.ensures.same)
      c.in_ok-add_range.ensures.same;
  marked = λ m. c.in_ok-add_range.ensures.marked (c.in_ok-add_row.ensures.marked (c.loop-arm.invariant.marked m));
}

pub add_node-returns-in_ok-add_row-in-Loop-clause-marked : goal.add_node-returns-in_ok-add_row-in-Loop-clause-marked
add_node-returns-in_ok-add_row-in-Loop-clause-marked t c = on_ok c.add_range.result (λ k m. k (c.in_ok-add_row-in-Loop.ensures.marked m)) c.add_range.ensures.marked
