use Rattle.std.proofs.Common.{◌∙◌, ◌==◌, ◌&&◌, ◌||◌, ap, get_or, sym}
use Rattle.plan_check.specs.EntryView.{entry}
use Rattle.plan_check.specs.Grouping.{row_at, with_place}
use Rattle.plan_check.specs.GroupsView.{groups}
use Rattle.plan_check.proofs.Rows.{place_more}
use Rattle.plan_check.proofs.groups.groups_of.Goals as goal

pub loop-place-preserved : goal.loop-place-preserved
loop-place-preserved c = λ n.
    let old = row_at (groups c.loop-place.groups) n in
    let x = c.index-entries-place.result in
    place_more entry c.args.all c.args.entries.now c.loop-place.place x c.loop-place-test.true c.index-entries-place.is n old (row_at (groups c.join.new.groups) n)
    (c.in_ok-join.ensures n
    ∙ ap (λ w. with_place (w && (n == (get_or c.args.entries.now c.loop-place.place x).occurrence.now.reference.cell)) c.loop-place.place old) c.is_wanted.ensures
    ∙ ap (λ e. with_place ((c.args.all || e.occurrence.now.defines) && (n == e.occurrence.now.reference.cell)) c.loop-place.place old) (sym c.index-entries-place.is))
    (c.loop-place.invariant n)
