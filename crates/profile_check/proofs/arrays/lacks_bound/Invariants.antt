use Rattle.std.proofs.Common.{◌≡◌, map, drop}
use Rattle.std.specs.List.{list_any}
use Rattle.ast.specs.View.{bounds}
use Rattle.profile_check.specs.DeclaredView.{constants_of}
use Rattle.profile_check.specs.Rules.{lacks_either}
use Rattle.profile_check.proofs.arrays.lacks_bound.Given as goal

abbrev pub invariant-loop-dimension : goal.invariant-loop-dimension
invariant-loop-dimension l =
    list_any (lacks_either (constants_of l.constants.entries)) (map bounds (drop l.dimension-index l.bounds))
    ≡ list_any (lacks_either (constants_of l.constants.entries)) (map bounds (l.bounds))
