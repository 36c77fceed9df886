use Rattle.std.proofs.Common.{◌≡◌, ℕ, drop, map}
use Rattle.std.specs.Prelude.{◌++◌}
use Rattle.plan_check.specs.EntryView.{entry}
use Rattle.plan_check.specs.Grouping.{at_cell, chosen, row_at}
use Rattle.plan_check.specs.GroupsView.{groups}
use Rattle.plan_check.proofs.groups.groups_of.Given as goal

abbrev pub invariant-loop-place : goal.invariant-loop-place
invariant-loop-place l =
    (c : ℕ) → chosen (map entry l.entries) (row_at (groups l.groups) c) ++ at_cell l.all c (map entry (drop l.place l.entries)) ≡ at_cell l.all c (map entry l.entries)
