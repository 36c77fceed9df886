use Rattle.std.proofs.Common.{◌≡◌, ◌++◌, map, drop, filter}
use Rattle.ast.specs.View.{letters, declarator}
use Rattle.profile_check.specs.Uses.{declarator_names, has_bounds}
use Rattle.profile_check.proofs.names.add_arrays.Given as goal

abbrev pub invariant-loop-declarator : goal.invariant-loop-declarator
invariant-loop-declarator l =
    map letters l.names.items ++ declarator_names (filter has_bounds (map declarator (drop l.declarator-index l.declared)))
    ≡ map letters l.fn.names.items ++ declarator_names (filter has_bounds (map declarator l.declared))
