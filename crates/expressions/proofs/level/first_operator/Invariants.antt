use Rattle.std.proofs.Common.{◌≡◌, drop}
use Rattle.expressions.specs.Reading.{first_operator}
use Rattle.expressions.proofs.level.first_operator.Given as goal

abbrev pub invariant-loop-operator : goal.invariant-loop-operator
invariant-loop-operator l = first_operator (drop l.operator-index l.operators) l.text ≡ first_operator l.operators l.text
