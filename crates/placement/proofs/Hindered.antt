-- What is in the way of a loop, by its private scalars and its sources.
use Rattle.std.proofs.Common.{◌≡◌, ◌+◌, ℕ, List, map, Option, take}
use Rattle.ast.specs.declared.name.Name.{Name}
use Rattle.dependence.specs.Kept.{most_events}
use Rattle.loop_tree.specs.Loops.{Loop}
use Rattle.placement.specs.Hindering.{AreFirstSources, IsFirstShared, first_shared, line_at, shown}
use Rattle.placement.specs.Placement.{AreSources}
use Rattle.privatise.specs.Privates.{ArePrivate}

pub is_shared : (l : Loop) (names : List (List ℕ)) (found : Option (Name × ℕ)) → ArePrivate l names → shown found ≡ first_shared names l.body → IsFirstShared l found
is_shared l names found privates is = record { names = names; privates = privates; is = is }

pub are_first : (lines : List ℕ) (l : Loop) (names : List (List ℕ)) (sources first : List ℕ) → ArePrivate l names → (ArePrivate l names → AreSources l sources)
    → first ≡ map (line_at lines) (take (most_events + 1) sources) → AreFirstSources lines l first
are_first lines l names sources first privates all are = record { sources = sources; all = all privates; are = are }
