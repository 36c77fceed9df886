use Rattle.std.proofs.Common.{◌≡◌, ◌+◌, ◌*◌, ◌≤◌, ◌^◌, drop}
use Rattle.engines.specs.Drawing as spec
use Rattle.engines.proofs.drawing.arrow_count.Given as goal

abbrev pub invariant-loop-dependence : goal.invariant-loop-dependence
invariant-loop-dependence l =
    (l.count + spec.arrow_count l.columns (drop l.dependence-index l.kept) ≡ spec.arrow_count l.columns l.kept)
    × (l.count ≤ l.dependence-index * 2 ^ 64)
