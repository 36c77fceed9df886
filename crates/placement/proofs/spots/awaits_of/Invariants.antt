use Rattle.std.proofs.Common.{◌≡◌, ℕ, drop, map, true}
use Rattle.std.specs.Prelude.{◌++◌}
use Rattle.placement.specs.Analysed.{triple}
use Rattle.placement.specs.Listed.{list_at}
use Rattle.placement.specs.Placement.{is_ascending}
use Rattle.placement.specs.Spotted as spec
use Rattle.placement.proofs.spots.awaits_of.Given as goal

abbrev pub invariant-loop-one : goal.invariant-loop-one
invariant-loop-one l =
    is_ascending l.sources ≡ true → (t : ℕ) → list_at l.awaits.items t ++ spec.awaits_of l.sources t (map triple (drop l.one-index l.kept)) ≡ spec.awaits_of l.sources t (map triple l.kept)
