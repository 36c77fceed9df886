-- What iterations of opened loops await: what is kept of their loops' dependences, and nothing but
-- that.
use Rattle.std.specs.Prelude.{◌≡◌, ℕ, List, Some, slice_get}
use Rattle.placement.specs.Awaiting.{AwaitsKept}
use Rattle.placement.specs.Placement.{AreSources}
use Rattle.codegen.specs.Program.{Planned}

-- Each await of these plans is the order await of an advance, of which each advance has one, or
-- comes from what is kept of the loop's dependences; and what is kept is awaited.
abbrev pub AreAwaitsKept : List Planned → Type 0
AreAwaitsKept xs =
    (n : ℕ) (x : Planned) → slice_get xs n ≡ Some x
    → (sources : List ℕ) × AreSources x.loop sources × AwaitsKept x.loop x.plan sources
