use Rattle.std.proofs.Common.{◌≡◌, ◌++◌, drop}
use Rattle.modelled.specs.Lines.{loop_lines}
use Rattle.modelled.proofs.lines.append_loops.Given as goal

abbrev pub invariant-loop-head : goal.invariant-loop-head
invariant-loop-head l = l.out.items ++ loop_lines (drop l.head-index l.heads) l.left ≡ l.fn.out.items ++ loop_lines l.heads l.loops
