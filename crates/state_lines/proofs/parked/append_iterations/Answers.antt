use Rattle.std.proofs.Common.{◌<◌, ◌++◌, ◌+◌, ◌-◌, arith}
use Rattle.activities.specs.Activities.{code_in, point_in}
use Rattle.state_lines.specs.States.{iteration_line, parked_lines}
use Rattle.state_lines.proofs.Seen.{line_on, parked_on}
use Rattle.state_lines.proofs.parked.append_iterations.Goals as goal

pub loop-left-preserved : goal.loop-left-preserved
loop-left-preserved c =
    let code = code_in c.args.activities.now in
    let m = (point_in c.args.activities.now).machine in
    let k = c.loop-left.k in
    let some : 0 < c.loop-left.left = omega (arith, c.loop-left-test.true) in
    record {
      shown = line_on c.append_iteration.new.out.items c.loop-left.out.items (iteration_line code m k) (parked_lines code m (k + 1) (c.loop-left.left - 1)) (parked_lines code m k c.loop-left.left)
          (c.args.out.now.items ++ parked_lines code m m.retired (m.ticket - m.retired)) c.in_ok-append_iteration.ensures (parked_on code m k c.loop-left.left some) c.loop-left.invariant.shown;
      further = omega (arith, some, c.loop-left.invariant.further);
    }
