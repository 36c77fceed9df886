use Rattle.std.proofs.Common.{◌≡◌, ◌∙◌, ap, arith, suc}
use Rattle.dependence.specs.Runs.{relation_at, stepped}
use Rattle.dependence.proofs.Runs.{lengthened}
use Rattle.dependence.proofs.run.Run.longer.Goals as goal

pub returns-clause-longer : goal.returns-clause-longer
returns-clause-longer c ks =
    let r = c.args.self.now in
    let added = c.in_ok-count.ensures in
    let more : c.in_ok-count.count ≡ suc r.count = omega (arith, added) in
    ap (λ n. stepped c.args.first r.second c.in_ok-step.step n (relation_at ks c.args.relation)) more
    ∙ lengthened ks r c.args.first c.args.second c.in_ok-step.step c.args.relation (c.is_of.ensures.first c.if-not-is_of.false) (c.is_of.ensures.relation c.if-not-is_of.false)
    (c.in_ok-step.ensures.same (relation_at ks r.relation)) c.in_ok-step.ensures.next
