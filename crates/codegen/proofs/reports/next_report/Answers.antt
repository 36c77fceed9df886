use Rattle.std.proofs.Common.{◌∙◌, ap, subst, sym}
use Rattle.std.specs.Prelude.{◌||◌, ◌++◌, ◌∷◌, []}
use Rattle.std.proofs.lemmas.Result.{IfOk-weaker}
use Rattle.dependence.specs.PlanView.{plan_of}
use Rattle.loop_tree.specs.TreeView.{all_seen, seen}
use Rattle.placement.specs.Judged.{IsInside, IsPlaced}
use Rattle.placement.specs.Placement.{IsPlacement, loops_around}
use Rattle.placement.proofs.Around.{is_placement}
use Rattle.plan_check.specs.Checks.{HasBody, HasNamesOnce, IsGood}
use Rattle.codegen.specs.Noted.{AreNoted, is_noted}
use Rattle.codegen.specs.Reports.{IsReport}
use Rattle.codegen.proofs.Nested.{noted_inside, noted_next}
use Rattle.codegen.proofs.reports.next_report.Goals as goal

pub checked-requires-clause-placed : goal.checked-requires-clause-placed
checked-requires-clause-placed c =
    let all = all_seen c.args.view.now in
    let l = seen c.args.view.now in
    let inside = c.is_inside-inside.result in
    let noted = noted_inside all c.args.noted.now.items l c.requires.nested c.requires.noted c.requires.next in
    let same = c.is_inside-inside.ensures ∙ ap (λ ns. is_noted ns l.around) c.deref.ensures.value in
    let is_inside = subst (λ b. IsInside (loops_around all l) b) (sym same) noted in
    is_placement all l inside c.in_ok-placed.placed c.requires.whole c.args.view.now.told is_inside (c.in_ok-placed.ensures c.requires.whole)

pub returns-clause-report : goal.returns-clause-report
returns-clause-report c =
    let all = all_seen c.args.view.now in
    let l = seen c.args.view.now in
    let given = c.in_ok-accepted.accepted in
    let unchanged = sym c.in_ok-accepted.ensures.same in
    let inside = c.is_inside-inside.result in
    let noted = noted_inside all c.args.noted.now.items l c.requires.nested c.requires.noted c.requires.next in
    let same = c.is_inside-inside.ensures ∙ ap (λ ns. is_noted ns l.around) c.deref.ensures.value in
    let is_inside = subst (λ b. IsInside (loops_around all l) b) (sym same) noted in
    let is_placed = subst (λ p. IsPlaced l inside p) unchanged (c.in_ok-placed.ensures c.requires.whole) in
    IfOk-weaker c.report.result _ _
    (λ r reported. record {
      inside = inside;
      is_inside = is_inside;
      placed = given;
      is_placed = is_placed;
      plan = subst (λ p. IsPlacement all l p) (sym reported.plan_is) (is_placement all l inside given c.requires.whole c.args.view.now.told is_inside is_placed);
      good = subst (λ p. IsGood l (plan_of p)) (sym reported.plan_is) c.in_ok-accepted.ensures.good;
      body = subst (λ p. HasBody l (plan_of p)) (sym reported.plan_is) c.in_ok-accepted.ensures.body;
      once = subst (λ p. HasNamesOnce (plan_of p)) (sym reported.plan_is) c.in_ok-accepted.ensures.once;
      reported = subst (λ n. IsReport c.args.lines.now n given r) c.line.ensures reported;
    })
    c.report.ensures

pub returns-clause-noted : goal.returns-clause-noted
returns-clause-noted c =
    let all = all_seen c.args.view.now in
    let l = seen c.args.view.now in
    let placed = c.in_ok-placed.placed in
    let same = c.is_inside-inside.ensures ∙ ap (λ ns. is_noted ns l.around) c.deref.ensures.value in
    let is_placed = subst (λ b. IsPlaced l b placed) same (c.in_ok-placed.ensures c.requires.whole) in
    let noted = noted_next all c.args.noted.now.items l placed c.requires.nested c.requires.noted c.requires.next is_placed in
    let grown = c.in_ok-note.ensures ∙ ap (λ b. c.args.noted.now.items ++ (b || placed.suits) ∷ []) same in
    IfOk-weaker c.report.result _ _ (λ r h. subst (λ ns. AreNoted all ns) (sym grown) noted) c.report.ensures
