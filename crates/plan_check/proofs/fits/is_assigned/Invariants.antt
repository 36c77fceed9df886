use Rattle.std.proofs.Common.{◌≡◌, drop, map}
use Rattle.ast.specs.View.{ref}
use Rattle.plan_check.specs.Checking.{has_named}
use Rattle.plan_check.proofs.fits.is_assigned.Given as goal

abbrev pub invariant-loop-scalar : goal.invariant-loop-scalar
invariant-loop-scalar l = has_named (map ref (drop l.scalar-index l.scalars)) l.name.letters ≡ has_named (map ref l.scalars) l.name.letters
