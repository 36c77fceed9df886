use Rattle.std.proofs.Common.{◌≡◌, map, drop}
use Rattle.std.specs.List.{list_any}
use Rattle.profile_check.specs.DeclaredView.{arrays_of}
use Rattle.profile_check.specs.Rules.{is_miscounted}
use Rattle.profile_check.specs.UsesView.{use_of}
use Rattle.profile_check.proofs.rules.miscounts.Given as goal

abbrev pub invariant-loop-one : goal.invariant-loop-one
invariant-loop-one l =
    list_any (is_miscounted (arrays_of l.arrays.entries)) (map use_of (drop l.one-index l.used))
    ≡ list_any (is_miscounted (arrays_of l.arrays.entries)) (map use_of l.used)
