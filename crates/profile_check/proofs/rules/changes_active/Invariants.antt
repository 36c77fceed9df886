use Rattle.std.proofs.Common.{◌≡◌, map, drop, ◌&&◌}
use Rattle.std.specs.List.{list_any}
use Rattle.structure.specs.Open.{is_active}
use Rattle.structure.specs.Standing.{standing}
use Rattle.profile_check.specs.UsesView.{use_of}
use Rattle.profile_check.proofs.rules.changes_active.Given as goal

abbrev pub invariant-loop-one : goal.invariant-loop-one
invariant-loop-one l =
    list_any (λ u. u.is_given && is_active (standing l.structure).opened u.name) (map use_of (drop l.one-index l.used))
    ≡ list_any (λ u. u.is_given && is_active (standing l.structure).opened u.name) (map use_of l.used)
