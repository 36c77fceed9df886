use Rattle.std.proofs.Common.{◌≡◌, map, drop}
use Rattle.std.specs.List.{list_all}
use Rattle.ast.specs.View.{declarator}
use Rattle.profile_check.specs.Rules.{bounds_are_integral}
use Rattle.profile_check.proofs.kinds.declarators_are_integral.Given as goal

abbrev pub invariant-loop-declarator : goal.invariant-loop-declarator
invariant-loop-declarator l = list_all (λ d. list_all bounds_are_integral d.bounds) (map declarator (drop l.declarator-index l.declared)) ≡ list_all (λ d. list_all bounds_are_integral d.bounds) (map declarator l.declared)
