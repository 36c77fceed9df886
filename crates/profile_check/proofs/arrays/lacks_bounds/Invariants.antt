use Rattle.std.proofs.Common.{◌≡◌, map, drop, filter}
use Rattle.std.specs.List.{list_any}
use Rattle.ast.specs.View.{declarator}
use Rattle.profile_check.specs.DeclaredView.{constants_of}
use Rattle.profile_check.specs.Rules.{lacks_bound}
use Rattle.profile_check.specs.Uses.{has_bounds}
use Rattle.profile_check.proofs.arrays.lacks_bounds.Given as goal

abbrev pub invariant-loop-declarator : goal.invariant-loop-declarator
invariant-loop-declarator l =
    list_any (lacks_bound (constants_of l.constants.entries)) (filter has_bounds (map declarator (drop l.declarator-index l.declared)))
    ≡ list_any (lacks_bound (constants_of l.constants.entries)) (filter has_bounds (map declarator (l.declared)))
