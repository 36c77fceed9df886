use Rattle.std.proofs.Common.{◌∙◌, ◌<◌, ◌++◌, ◌+◌, ◌-◌, ap, arith}
use Rattle.activities.specs.Activities.{point_in}
use Rattle.state_lines.specs.States.{count_line, count_lines}
use Rattle.state_lines.proofs.Seen.{counts_on, line_on}
use Rattle.state_lines.proofs.counts.append_counts.Goals as goal

pub loop-left-preserved : goal.loop-left-preserved
loop-left-preserved c =
    let f = (point_in c.args.activities.now).machine.counts in
    let e = c.loop-left.event in
    let some : 0 < c.loop-left.left = omega (arith, c.loop-left-test.true) in
    record {
      shown = line_on c.append_count.new.out.items c.loop-left.out.items (count_line e (f e)) (count_lines f (e + 1) (c.loop-left.left - 1)) (count_lines f e c.loop-left.left) (c.args.out.now.items ++ count_lines f 1 c.args.events)
          (c.in_ok-append_count.ensures ∙ ap (λ n. c.loop-left.out.items ++ count_line e n) c.count_of.ensures) (counts_on f e c.loop-left.left some) c.loop-left.invariant.shown;
      further = omega (arith, some, c.loop-left.invariant.further);
    }
