use Rattle.std.proofs.Common.{◌≡◌, ◌≤◌, [], false}
use Rattle.fixed_form.specs.Limits.{greatest_line}
use Rattle.fixed_form.specs.Answers.{entries}
use Rattle.fixed_form.specs.Lines.{lines_in}
use Rattle.fixed_form.specs.Steps.{read_on}
use Rattle.fixed_form.proofs.reading.read_all.Given as goal

abbrev pub invariant-loop-line : goal.invariant-loop-line
invariant-loop-line l = (read_on (entries l.list.items) l.number l.ended l.line-iterator ≡ read_on [] 0 false (lines_in l.fn.text)) × (l.number ≤ greatest_line)
