use Rattle.std.proofs.Common.{◌≡◌, ◌≤◌, drop}
use Rattle.values.specs.Scanning.{magnitude_from, magnitude_in}
use Rattle.values.proofs.scanner.magnitude.Given as goal

abbrev pub invariant-loop-digit : goal.invariant-loop-digit
invariant-loop-digit l = (l.value ≤ l.limit) × (magnitude_from l.limit l.value (drop l.digit-index l.digits) ≡ magnitude_in l.limit l.digits)
