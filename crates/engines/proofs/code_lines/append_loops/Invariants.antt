use Rattle.std.proofs.Common.{◌≡◌, drop, map}
use Rattle.std.specs.Prelude.{◌++◌}
use Rattle.machine.specs.CodeView.{loop_of}
use Rattle.engines.specs.CodeLines.{loop_lines}
use Rattle.engines.proofs.code_lines.append_loops.Given as goal

abbrev pub invariant-loop-number : goal.invariant-loop-number
invariant-loop-number l = l.out.items ++ loop_lines l.variables l.number (map loop_of (drop l.number l.loops)) ≡ l.fn.out.items ++ loop_lines l.variables 0 (map loop_of l.loops)
