use Rattle.std.proofs.Common.{◌≡◌, ◌++◌, map, drop}
use Rattle.ast.specs.View.{letters, definition}
use Rattle.profile_check.specs.Uses.{definition_names}
use Rattle.profile_check.proofs.names.add_definitions.Given as goal

abbrev pub invariant-loop-definition : goal.invariant-loop-definition
invariant-loop-definition l =
    map letters l.names.items ++ definition_names (map definition (drop l.definition-index l.defined))
    ≡ map letters l.fn.names.items ++ definition_names (map definition l.defined)
