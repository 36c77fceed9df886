use Rattle.std.proofs.Common.{◌≡◌, ℕ, length}
use Rattle.std.specs.Prelude.{◌+◌, ◌-◌}
use Rattle.placement.specs.Listed.{list_at}
use Rattle.placement.proofs.nested.lengthen.Given as goal

abbrev pub invariant-loop-alloc : goal.invariant-loop-alloc
invariant-loop-alloc g l = (n : ℕ) → list_at l.lists.items n ≡ list_at l.fn.lists.items n

abbrev pub decreases-loop-alloc : goal.decreases-loop-alloc
decreases-loop-alloc g l = (l.number + 1) - length l.lists.items
