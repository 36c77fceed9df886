use Rattle.std.proofs.Common.{◌≡◌, drop, map}
use Rattle.std.specs.Prelude.{◌++◌}
use Rattle.ast.specs.View.{letters, ref}
use Rattle.privatise.specs.Privates.{private_names}
use Rattle.privatise.proofs.flow.private_names.Given as goal

abbrev pub invariant-loop-scalar : goal.invariant-loop-scalar
invariant-loop-scalar l =
    map letters l.names.items ++ private_names l.walks (map ref (drop l.scalar-index l.assigned)) ≡ private_names l.walks (map ref l.assigned)
