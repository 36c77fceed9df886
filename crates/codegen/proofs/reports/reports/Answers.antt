use Rattle.std.proofs.Common.{◌≡◌, ◌∙◌, ◌++◌, ◌∷◌, [], ap, rules, subst}
use Rattle.std.specs.Prelude.{◌+◌}
use Rattle.loop_tree.specs.TreeView.{lines_seen, loops_seen, seen}
use Rattle.codegen.specs.Noted.{AreNoted}
use Rattle.codegen.specs.Reports.{IsPlacedReport}
use Rattle.codegen.proofs.Reported.{more_taken}
use Rattle.codegen.proofs.reports.reports.Goals as goal

pub next_report-requires-clause-whole : goal.next_report-requires-clause-whole
next_report-requires-clause-whole c = c.requires.whole (c.loop-place.place + 1) (seen c.view-view.result) c.view-view.ensures.seen

pub loop-place-preserved : goal.loop-place-preserved
loop-place-preserved c =
    let tree = c.args.tree.now in
    let all = loops_seen tree in
    let l = seen c.view-view.result in
    let r = c.in_ok-next_report.field-0 in
    let next = c.in_ok-next_report.ensures in
    let grown : c.push.new.self.items ≡ c.loop-place.reports.items ++ r ∷ [] = search (rules, c.in_ok-push.ensures.items) in
    let by_tree = subst (λ ls. IsPlacedReport ls c.lines.result.now l r) c.view-view.ensures.tree next.report in
    let reported : IsPlacedReport all (lines_seen tree) l r = subst (λ ns. IsPlacedReport all ns l r) c.lines.ensures by_tree in
    record {
      reports = more_taken all (lines_seen tree) all c.loop-place.place c.loop-place.reports.items c.push.new.self.items l r c.loop-place.invariant.reports c.view-view.ensures.seen reported grown;
      noted = subst (λ ls. AreNoted ls c.next_report.new.noted.items) c.view-view.ensures.tree next.noted;
      count = next.count ∙ ap (λ n. n + 1) c.loop-place.invariant.count;
    }
