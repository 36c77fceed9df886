use Rattle.pictures.specs.Sketches.{HasSameMarks, KeepsMarks}
use Rattle.pictures.proofs.sketch.+ranges.Given as goal

abbrev pub invariant-add_arms-loop-arm : goal.invariant-add_arms-loop-arm
invariant-add_arms-loop-arm l = record { same : HasSameMarks l.fn.sketch l.sketch; marked : KeepsMarks l.fn.sketch l.sketch }

abbrev pub invariant-add_range-loop-node : goal.invariant-add_range-loop-node
invariant-add_range-loop-node l = record { same : HasSameMarks l.fn.sketch l.sketch; marked : KeepsMarks l.fn.sketch l.sketch }
