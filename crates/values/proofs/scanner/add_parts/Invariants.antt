use Rattle.std.proofs.Common.{◌≡◌, true, length}
use Rattle.values.specs.Scanning.{pieces, parts_onto}
use Rattle.values.specs.declared.scanner.Separator.TheVariants.{Comma}
use Rattle.values.proofs.scanner.add_parts.Given as goal

abbrev pub invariant-loop-rest : goal.invariant-loop-rest
invariant-loop-rest l = parts_onto true l.integers.items (pieces Comma l.rest) ≡ parts_onto true l.fn.integers.items (pieces Comma l.parts)

abbrev pub decreases-loop-rest : goal.decreases-loop-rest
decreases-loop-rest l = length (pieces Comma l.rest)
