use Rattle.std.proofs.Common.{◌≡◌, map, drop, filter}
use Rattle.ast.specs.View.{letters}
use Rattle.profile_check.specs.Rules.{are_real}
use Rattle.profile_check.specs.Uses.{is_name}
use Rattle.profile_check.specs.UsesView.{use_of}
use Rattle.profile_check.proofs.rules.uses_real.Given as goal

abbrev pub invariant-loop-one : goal.invariant-loop-one
invariant-loop-one l =
    are_real (map letters l.typed.keys) (map (λ u. u.name) (filter is_name (map use_of (drop l.one-index l.used))))
    ≡ are_real (map letters l.typed.keys) (map (λ u. u.name) (filter is_name (map use_of l.used)))
