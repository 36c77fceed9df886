use Rattle.std.proofs.Common.{append_assoc, rules}
use Rattle.codegen.proofs.loops.emit_opened.Goals as goal

pub returns : goal.returns
returns c = search (rules, append_assoc)
