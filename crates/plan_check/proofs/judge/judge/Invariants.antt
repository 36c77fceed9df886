use Rattle.std.proofs.Common.{◌≡◌, drop, map}
use Rattle.ast.specs.View.{letters}
use Rattle.loop_tree.specs.TreeView.{seen}
use Rattle.plan_check.specs.ClaimsView.{claim_in}
use Rattle.plan_check.specs.EntryView.{entry, verdict}
use Rattle.plan_check.specs.Grouping.{with_groups}
use Rattle.plan_check.specs.GroupsView.{groups}
use Rattle.plan_check.specs.Judging.{best}
use Rattle.plan_check.proofs.judge.judge.Given as goal

abbrev pub invariant-loop-first : goal.invariant-loop-first
invariant-loop-first l =
    with_groups (seen l.view) l.events (claim_in l.claims) (map letters l.privates) (groups l.partners.all) (groups l.partners.defining) (map entry l.entries) (map entry (drop l.first-index l.entries)) (verdict l.verdict)
    ≡ with_groups (seen l.view) l.events (claim_in l.claims) (map letters l.privates) (groups l.partners.all) (groups l.partners.defining) (map entry l.entries) (map entry l.entries) best
