use Rattle.std.proofs.Common.{◌≡◌, ◌++◌, map, option_map, drop}
use Rattle.ast.specs.View.{bounds, extent}
use Rattle.profile_check.specs.Declarations.{extents_of}
use Rattle.profile_check.specs.DeclaredView.{constants_of}
use Rattle.profile_check.proofs.arrays.dimensions_of.Given as goal

abbrev pub invariant-loop-given : goal.invariant-loop-given
invariant-loop-given l =
    option_map (λ ds. map extent l.dimensions.items ++ ds) (extents_of (constants_of l.constants.entries) (map bounds (drop l.given-index l.bounds)))
    ≡ extents_of (constants_of l.constants.entries) (map bounds l.bounds)
