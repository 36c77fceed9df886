use Rattle.std.proofs.Common.{◌≡◌, map, drop}
use Rattle.ast.specs.View.{letters, declarator}
use Rattle.profile_check.specs.Rules.{are_real}
use Rattle.profile_check.specs.Uses.{declarator_names}
use Rattle.profile_check.proofs.rules.declares_real.Given as goal

abbrev pub invariant-loop-declarator : goal.invariant-loop-declarator
invariant-loop-declarator l =
    are_real (map letters l.typed.keys) (declarator_names (map declarator (drop l.declarator-index l.declared)))
    ≡ are_real (map letters l.typed.keys) (declarator_names (map declarator l.declared))
