use Rattle.std.proofs.Common.{◌≡◌, ℕ, length}
use Rattle.std.specs.Prelude.{◌+◌, ◌-◌}
use Rattle.plan_check.specs.Grouping.{row_at}
use Rattle.plan_check.specs.GroupsView.{groups}
use Rattle.plan_check.proofs.groups.lengthen.Given as goal

abbrev pub invariant-loop-alloc : goal.invariant-loop-alloc
invariant-loop-alloc l = (c : ℕ) → row_at (groups l.groups) c ≡ row_at (groups l.fn.groups) c

abbrev pub decreases-loop-alloc : goal.decreases-loop-alloc
decreases-loop-alloc l = (l.cell + 1) - length l.groups.rows.items
