use Rattle.std.proofs.Common.{◌≡◌, map, drop, filter}
use Rattle.std.specs.List.{list_any}
use Rattle.ast.specs.View.{declarator}
use Rattle.profile_check.specs.DeclaredView.{constants_of}
use Rattle.profile_check.specs.Rules.{is_ill_bounded}
use Rattle.profile_check.specs.Uses.{has_bounds}
use Rattle.profile_check.proofs.arrays.crosses_bounds.Given as goal

abbrev pub invariant-loop-declarator : goal.invariant-loop-declarator
invariant-loop-declarator l =
    list_any (is_ill_bounded (constants_of l.constants.entries)) (filter has_bounds (map declarator (drop l.declarator-index l.declared)))
    ≡ list_any (is_ill_bounded (constants_of l.constants.entries)) (filter has_bounds (map declarator (l.declared)))
