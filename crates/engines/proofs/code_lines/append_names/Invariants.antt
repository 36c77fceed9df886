use Rattle.std.proofs.Common.{◌≡◌, drop}
use Rattle.std.specs.Prelude.{◌++◌}
use Rattle.engines.specs.CodeLines.{names_words}
use Rattle.engines.proofs.code_lines.append_names.Given as goal

abbrev pub invariant-loop-number : goal.invariant-loop-number
invariant-loop-number l = l.out.items ++ names_words l.variables (drop l.number-index l.numbers) ≡ l.fn.out.items ++ names_words l.variables l.numbers
