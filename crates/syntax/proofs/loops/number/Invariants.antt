use Rattle.std.proofs.Common.{◌≡◌, ◌≤◌, ◌*◌, drop}
use Rattle.expressions.specs.Characters.{value, value_after}
use Rattle.syntax.proofs.Labels.{ones}
use Rattle.syntax.proofs.loops.number.Given as goal

abbrev pub invariant-loop-digit : goal.invariant-loop-digit
invariant-loop-digit l = (value_after l.total (drop l.digit-index l.digits) ≡ value l.digits) × (l.total ≤ 255 * ones l.digit-index)
