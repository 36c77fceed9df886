use Rattle.std.proofs.Common.{◌≡◌, length, map}
use Rattle.structure.specs.Open as spec
use Rattle.structure.specs.View.{opened}
use Rattle.structure.proofs.opened.end_ranges.Given as goal

abbrev pub invariant-loop-structures : goal.invariant-loop-structures
invariant-loop-structures l = spec.ended_by l.label (map opened l.structures.items) ≡ spec.ended_by l.label (map opened l.fn.structures.items)

abbrev pub decreases-loop-structures : goal.decreases-loop-structures
decreases-loop-structures l = length l.structures.items
