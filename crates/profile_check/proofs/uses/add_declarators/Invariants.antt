use Rattle.std.proofs.Common.{◌≡◌, ◌++◌, map, drop}
use Rattle.ast.specs.View.{declarator}
use Rattle.profile_check.specs.Uses as spec
use Rattle.profile_check.specs.UsesView.{use_of}
use Rattle.profile_check.proofs.uses.add_declarators.Given as goal

abbrev pub invariant-loop-declarator : goal.invariant-loop-declarator
invariant-loop-declarator l =
    map use_of l.uses.items ++ spec.all_uses spec.declarator_uses (map declarator (drop l.declarator-index l.declared))
    ≡ map use_of l.fn.uses.items ++ spec.all_uses spec.declarator_uses (map declarator l.declared)
