use Rattle.std.proofs.Common.{◌≡◌, map, drop}
use Rattle.ast.specs.View.{letters, definition}
use Rattle.profile_check.specs.Rules.{are_real}
use Rattle.profile_check.specs.Uses.{definition_names}
use Rattle.profile_check.proofs.rules.defines_real.Given as goal

abbrev pub invariant-loop-definition : goal.invariant-loop-definition
invariant-loop-definition l =
    are_real (map letters l.typed.keys) (definition_names (map definition (drop l.definition-index l.defined)))
    ≡ are_real (map letters l.typed.keys) (definition_names (map definition l.defined))
