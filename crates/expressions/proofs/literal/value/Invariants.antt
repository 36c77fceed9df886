use Rattle.std.proofs.Common.{◌≡◌, ◌<◌, ◌^◌, drop}
use Rattle.expressions.specs.Characters.{value, value_after}
use Rattle.expressions.proofs.literal.value.Given as goal

abbrev pub invariant-loop-digit : goal.invariant-loop-digit
invariant-loop-digit l = (l.total < 2 ^ 63) × (value_after l.total (drop l.digit-index l.digits) ≡ value l.digits)
