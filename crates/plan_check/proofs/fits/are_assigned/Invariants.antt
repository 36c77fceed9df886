use Rattle.std.proofs.Common.{◌≡◌, drop, map}
use Rattle.std.specs.List.{list_all}
use Rattle.ast.specs.View.{letters, ref}
use Rattle.plan_check.specs.Checking.{has_named}
use Rattle.plan_check.proofs.fits.are_assigned.Given as goal

abbrev pub invariant-loop-name : goal.invariant-loop-name
invariant-loop-name l =
    list_all (λ n. has_named (map ref l.scalars) n) (map letters (drop l.name-index l.names)) ≡ list_all (λ n. has_named (map ref l.scalars) n) (map letters l.names)
