use Rattle.std.proofs.Common.{◌≡◌, ◌+◌, ◌++◌}
use Rattle.activities.specs.Activities.{point_in}
use Rattle.state_lines.specs.States.{count_lines}
use Rattle.state_lines.proofs.counts.append_counts.Given as goal

abbrev pub invariant-loop-left : goal.invariant-loop-left
invariant-loop-left l = record {
  shown : l.out.items ++ count_lines (point_in l.activities).machine.counts l.event l.left ≡ l.fn.out.items ++ count_lines (point_in l.activities).machine.counts 1 l.events;
  further : l.event + l.left ≡ 1 + l.events;
}

abbrev pub decreases-loop-left : goal.decreases-loop-left
decreases-loop-left l = l.left
