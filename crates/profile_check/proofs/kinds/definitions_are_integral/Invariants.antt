use Rattle.std.proofs.Common.{◌≡◌, map, drop}
use Rattle.std.specs.List.{list_all}
use Rattle.ast.specs.View.{definition}
use Rattle.profile_check.specs.Kinds.{integral, is_of}
use Rattle.profile_check.proofs.kinds.definitions_are_integral.Given as goal

abbrev pub invariant-loop-definition : goal.invariant-loop-definition
invariant-loop-definition l = list_all (λ d. is_of integral d.value) (map definition (drop l.definition-index l.defined)) ≡ list_all (λ d. is_of integral d.value) (map definition l.defined)
