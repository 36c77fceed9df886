use Rattle.std.proofs.Common.{◌≡◌, drop, map}
use Rattle.std.specs.Prelude.{◌++◌}
use Rattle.loop_tree.specs.TreeView.{seen}
use Rattle.loop_tree.specs.View.{occurrence}
use Rattle.plan_check.specs.Entries.{entries_by}
use Rattle.plan_check.specs.EntryView.{entry}
use Rattle.plan_check.specs.SeenView.{note}
use Rattle.plan_check.proofs.entry.entries_of.Given as goal

abbrev pub invariant-loop-place : goal.invariant-loop-place
invariant-loop-place l =
    map entry l.entries.items ++ entries_by (seen l.view) (map occurrence (drop l.place l.references)) (map note (drop l.place l.notes))
    ≡ entries_by (seen l.view) (map occurrence l.references) (map note l.notes)
