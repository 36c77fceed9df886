use Rattle.std.proofs.Common.{◌≤◌, ◌∙◌, ◌++◌, ap, sym, map, length, min, rules}
use Rattle.std.proofs.lemmas.List.{append-nil}
use Rattle.loop_tree.specs.TreeView.{seen}
use Rattle.loop_tree.specs.View.{occurrence}
use Rattle.plan_check.specs.EntryView.{entry}
use Rattle.plan_check.specs.SeenView.{note}
use Rattle.plan_check.proofs.Rows.{no_more}
use Rattle.plan_check.proofs.entry.entries_of.Goals as goal

pub returns : goal.returns
returns c =
    let ended : min (length c.args.references.now) (length c.args.notes.now) ≤ c.loop-place.place = search rules in
    sym (append-nil (map entry c.loop-place.entries.items)) ∙ ap (λ es. map entry c.loop-place.entries.items ++ es) (sym (no_more occurrence note (seen c.args.view.now) c.loop-place.place c.args.references.now c.args.notes.now ended)) ∙ c.loop-place.invariant
