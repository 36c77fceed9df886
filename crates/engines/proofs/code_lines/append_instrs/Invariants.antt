use Rattle.std.proofs.Common.{◌≡◌, drop}
use Rattle.std.specs.Prelude.{◌++◌}
use Rattle.machine.specs.CodeView.{code_of}
use Rattle.engines.specs.CodeLines.{instr_lines}
use Rattle.engines.proofs.code_lines.append_instrs.Given as goal

abbrev pub invariant-loop-place : goal.invariant-loop-place
invariant-loop-place l =
    l.out.items ++ instr_lines (code_of l.code) l.place (drop l.place l.code.instructions.items) ≡ l.fn.out.items ++ instr_lines (code_of l.code) 0 l.code.instructions.items
