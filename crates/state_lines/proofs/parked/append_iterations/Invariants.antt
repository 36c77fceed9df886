use Rattle.std.proofs.Common.{◌≡◌, ◌+◌, ◌-◌, ◌++◌}
use Rattle.activities.specs.Activities.{code_in, point_in}
use Rattle.state_lines.specs.States.{parked_lines}
use Rattle.state_lines.proofs.parked.append_iterations.Given as goal

abbrev pub invariant-loop-left : goal.invariant-loop-left
invariant-loop-left l =
    let m = (point_in l.activities).machine in
    record {
      shown : l.out.items ++ parked_lines (code_in l.activities) m l.k l.left ≡ l.fn.out.items ++ parked_lines (code_in l.activities) m m.retired (m.ticket - m.retired);
      further : l.k + l.left ≡ m.ticket;
    }

abbrev pub decreases-loop-left : goal.decreases-loop-left
decreases-loop-left l = l.left
