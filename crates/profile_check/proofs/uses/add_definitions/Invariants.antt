use Rattle.std.proofs.Common.{◌≡◌, ◌++◌, map, drop}
use Rattle.ast.specs.View.{definition}
use Rattle.profile_check.specs.Uses as spec
use Rattle.profile_check.specs.UsesView.{use_of}
use Rattle.profile_check.proofs.uses.add_definitions.Given as goal

abbrev pub invariant-loop-definition : goal.invariant-loop-definition
invariant-loop-definition l =
    map use_of l.uses.items ++ spec.all_uses spec.definition_uses (map definition (drop l.definition-index l.defined))
    ≡ map use_of l.fn.uses.items ++ spec.all_uses spec.definition_uses (map definition l.defined)
