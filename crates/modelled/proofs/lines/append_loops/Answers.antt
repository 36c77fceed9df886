use Rattle.std.proofs.Common.{◌++◌, drop}
use Rattle.modelled.specs.Lines.{loop_lines}
use Rattle.modelled.proofs.Listed.{all_listed}
use Rattle.modelled.proofs.lines.append_loops.Goals as goal

pub returns-in_default : goal.returns-in_default
returns-in_default c =
    all_listed c.loop-head.out.items (c.args.out.now.items ++ loop_lines c.args.heads.now c.args.loops.now) (drop c.loop-head.head-index c.args.heads.now) c.loop-head.left.now c.in_default.len_below c.loop-head.invariant
