use Rattle.std.proofs.Common.{◌≡◌, drop}
use Rattle.std.specs.Prelude.{◌++◌}
use Rattle.arrows.specs.Escaped as spec
use Rattle.arrows.proofs.escaping.append_escaped.Given as goal

abbrev pub invariant-loop-byte : goal.invariant-loop-byte
invariant-loop-byte l = l.out.items ++ spec.escaped (drop l.byte-index l.text) ≡ l.fn.out.items ++ spec.escaped l.text
