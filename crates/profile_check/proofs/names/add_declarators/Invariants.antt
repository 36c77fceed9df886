use Rattle.std.proofs.Common.{◌≡◌, ◌++◌, map, drop}
use Rattle.ast.specs.View.{letters, declarator}
use Rattle.profile_check.specs.Uses.{declarator_names}
use Rattle.profile_check.proofs.names.add_declarators.Given as goal

abbrev pub invariant-loop-declarator : goal.invariant-loop-declarator
invariant-loop-declarator l =
    map letters l.names.items ++ declarator_names (map declarator (drop l.declarator-index l.declared))
    ≡ map letters l.fn.names.items ++ declarator_names (map declarator l.declared)
