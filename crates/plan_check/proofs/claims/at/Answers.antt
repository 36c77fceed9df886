use Rattle.std.proofs.Common.{◌∙◌, Some, ap, arith, sym}
use Rattle.plan_check.proofs.Claimed.{at_place}
use Rattle.plan_check.proofs.claims.at.Goals as goal

pub returns : goal.returns
returns c =
    let some = c.if-run-runs.false in
    let inside = c.if-place-one.false in
    at_place c.args.relations.now.different.items c.args.runs.now c.args.run c.args.place c.args.first c.args.second _ c.requires (omega (arith, some)) (omega (arith, inside)) (sym c.is_at.ensures ∙ c.if-not-is_at.false)
    ∙ ap (λ r. Some r) (sym c.relation.ensures)
