use Rattle.std.proofs.Common.{◌≡◌, ◌++◌, drop, true}
use Rattle.state_lines.specs.States.{marked}
use Rattle.state_lines.proofs.records.append_marked.Given as goal

abbrev pub invariant-loop-byte : goal.invariant-loop-byte
invariant-loop-byte l = l.out.items ++ marked l.begins (drop l.byte-index l.records) ≡ l.fn.out.items ++ marked true l.records
