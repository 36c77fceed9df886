use Rattle.std.proofs.Common.{◌≡◌, drop, map}
use Rattle.loop_tree.specs.TreeView.{seen}
use Rattle.plan_check.specs.ClaimsView.{claim_in}
use Rattle.plan_check.specs.EntryView.{AllTell, entry, verdict}
use Rattle.plan_check.specs.Grouping.{with_places}
use Rattle.plan_check.proofs.judge.judge_partners.Given as goal

abbrev pub invariant-loop-place : goal.invariant-loop-place
invariant-loop-place l = record {
  tells : AllTell (seen l.view) (entry l.first) l.recent;
  verdict :
      with_places (seen l.view) l.events (claim_in l.claims) (entry l.first) (map entry l.entries) (drop l.place-index l.places) (verdict l.verdict)
      ≡ with_places (seen l.view) l.events (claim_in l.claims) (entry l.first) (map entry l.entries) l.places (verdict l.fn.verdict);
}
