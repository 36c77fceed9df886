use Rattle.std.proofs.Common.{◌≡◌, ◌<◌, ◌^◌, drop}
use Rattle.schedules.specs.Reading.{value, value_after}
use Rattle.schedules.proofs.number.value.Given as goal

abbrev pub invariant-loop-digit : goal.invariant-loop-digit
invariant-loop-digit l = (l.total < 2 ^ 128) × (value_after l.total (drop l.digit-index l.digits) ≡ value l.digits)
