use Rattle.std.proofs.Common.{◌≡◌, ◌<◌, ◌^◌, map, drop, filter}
use Rattle.ast.specs.View.{declarator}
use Rattle.profile_check.specs.Counted.{counted}
use Rattle.profile_check.specs.Declarations.{with_arrays, arrays_by}
use Rattle.profile_check.specs.DeclaredView.{constants_of, arrays_of}
use Rattle.profile_check.specs.Uses.{has_bounds}
use Rattle.profile_check.proofs.arrays.add_arrays.Given as goal

abbrev pub invariant-loop-declarator : goal.invariant-loop-declarator
invariant-loop-declarator l = record {
  arrays : with_arrays (arrays_of l.arrays.entries) (arrays_by (constants_of l.constants.entries) (filter has_bounds (map declarator (drop l.declarator-index l.declared))))
      ≡ with_arrays (arrays_of l.fn.arrays.entries) (arrays_by (constants_of l.constants.entries) (filter has_bounds (map declarator l.declared)));
  elements : counted l.total (arrays_by (constants_of l.constants.entries) (filter has_bounds (map declarator (drop l.declarator-index l.declared))))
      ≡ counted l.fn.before (arrays_by (constants_of l.constants.entries) (filter has_bounds (map declarator l.declared)));
  few : l.total < 2 ^ 32;
}
