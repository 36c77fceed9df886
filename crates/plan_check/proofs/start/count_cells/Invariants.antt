use Rattle.std.proofs.Common.{◌≡◌, drop, map}
use Rattle.ast.specs.View.{ref}
use Rattle.plan_check.specs.Checking.{cells_from}
use Rattle.plan_check.proofs.start.count_cells.Given as goal

abbrev pub invariant-loop-scalar : goal.invariant-loop-scalar
invariant-loop-scalar l = cells_from l.count (map ref (drop l.scalar-index l.scalars)) ≡ cells_from 0 (map ref l.scalars)
