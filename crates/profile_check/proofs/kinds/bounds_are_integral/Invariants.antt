use Rattle.std.proofs.Common.{◌≡◌, map, drop}
use Rattle.std.specs.List.{list_all}
use Rattle.ast.specs.View.{bounds}
use Rattle.profile_check.specs.Rules.{bounds_are_integral}
use Rattle.profile_check.proofs.kinds.bounds_are_integral.Given as goal

abbrev pub invariant-loop-dimension : goal.invariant-loop-dimension
invariant-loop-dimension l = list_all bounds_are_integral (map bounds (drop l.dimension-index l.bounds)) ≡ list_all bounds_are_integral (map bounds l.bounds)
