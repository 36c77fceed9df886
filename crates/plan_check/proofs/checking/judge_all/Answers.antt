use Rattle.std.proofs.Common.{◌∙◌, ap, false, map, sym, true}
use Rattle.std.specs.List.{list_any}
use Rattle.loop_tree.specs.TreeView.{seen}
use Rattle.plan_check.specs.ClaimsView.{claim_in}
use Rattle.plan_check.specs.Entries.{entries_by}
use Rattle.plan_check.specs.EntryView.{entry, verdict}
use Rattle.plan_check.specs.GivenView.{given}
use Rattle.plan_check.specs.Grouping.{at_cell, chosen, row_at}
use Rattle.plan_check.specs.GroupsView.{groups as groups_of}
use Rattle.plan_check.specs.KnownView.{known as known_of}
use Rattle.plan_check.specs.SeenView.{note, seen as seen_of}
use Rattle.plan_check.proofs.Judged.{judged}
use Rattle.plan_check.proofs.checking.judge_all.Goals as goal

pub returns : goal.returns
returns c =
    let l = seen c.args.view.now in
    let all = groups_of c.in_ok-partners.partners.all in
    let defining = groups_of c.in_ok-partners.partners.defining in
    let same = c.deref-4.ensures.value ∙ sym c.deref-2.ensures.value in
    judged l (given c.args.plan.now) (known_of c.args.walked.now.known) (seen_of c.args.walked.now.seen) c.requires.walked c.references.ensures.told
    c.deref-3.result.now c.args.events.now (λ test. ap (λ es. list_any test es) c.deref-3.ensures.value ∙ c.in_ok-named.ensures test) c.requires.named
    (claim_in c.claims_of-claims.result) c.claims_of-claims.ensures.claims
    (map entry c.deref-4.result.now)
    (ap (λ es. map entry es) c.deref-4.ensures.value ∙ c.in_ok-entries.ensures ∙ ap (λ os. entries_by l os (map note c.deref.result.now)) c.references.ensures.all ∙ ap (λ ns. entries_by l l.references (map note ns)) c.deref.ensures.value)
    all defining
    (λ n. ap (λ es. chosen (map entry es) (row_at all n)) same ∙ c.in_ok-partners.ensures.all n ∙ ap (λ es. at_cell true n (map entry es)) (sym same))
    (λ n. ap (λ es. chosen (map entry es) (row_at defining n)) same ∙ c.in_ok-partners.ensures.defining n ∙ ap (λ es. at_cell false n (map entry es)) (sym same))
    (verdict c.judge.result) c.judge.ensures
