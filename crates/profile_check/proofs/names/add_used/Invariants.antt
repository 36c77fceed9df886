use Rattle.std.proofs.Common.{◌≡◌, ◌++◌, map, drop, filter}
use Rattle.ast.specs.View.{letters}
use Rattle.profile_check.specs.Uses.{is_name}
use Rattle.profile_check.specs.UsesView.{use_of}
use Rattle.profile_check.proofs.names.add_used.Given as goal

abbrev pub invariant-loop-one : goal.invariant-loop-one
invariant-loop-one l =
    map letters l.names.items ++ map (λ u. u.name) (filter is_name (map use_of (drop l.one-index l.used)))
    ≡ map letters l.fn.names.items ++ map (λ u. u.name) (filter is_name (map use_of l.used))
