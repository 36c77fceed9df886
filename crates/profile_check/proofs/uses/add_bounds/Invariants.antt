use Rattle.std.proofs.Common.{◌≡◌, ◌++◌, map, drop}
use Rattle.ast.specs.View.{bounds}
use Rattle.profile_check.specs.Uses as spec
use Rattle.profile_check.specs.UsesView.{use_of}
use Rattle.profile_check.proofs.uses.add_bounds.Given as goal

abbrev pub invariant-loop-dimension : goal.invariant-loop-dimension
invariant-loop-dimension l =
    map use_of l.uses.items ++ spec.all_uses spec.bounds_uses (map bounds (drop l.dimension-index l.bounds))
    ≡ map use_of l.fn.uses.items ++ spec.all_uses spec.bounds_uses (map bounds l.bounds)
