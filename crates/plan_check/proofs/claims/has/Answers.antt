use Rattle.std.proofs.Common.{◌∙◌, arith, sym}
use Rattle.dependence.specs.Runs.{relation_at}
use Rattle.plan_check.proofs.Claimed.{found_here, missed_here, other_first}
use Rattle.plan_check.proofs.claims.has.Goals as goal

pub returns-then-run-first : goal.returns-then-run-first
returns-then-run-first c =
    let r = c.args.run.now in
    let other = c.if-run-first.true in
    λ ks rest. other_first r.first r.second r.step r.count (relation_at ks r.relation) rest c.args.first c.args.second (λ same. omega (arith, other, same))

pub returns-then-is_at : goal.returns-then-is_at
returns-then-is_at c =
    let inside = c.loop-place-test.true in
    λ ks rest.
    sym (c.loop-place.invariant.same ks rest)
    ∙ found_here ks c.args.run.now c.loop-place.place c.args.first c.args.second rest (omega (arith, inside)) (sym c.is_at.ensures ∙ c.if-is_at.true)

pub loop-place-preserved : goal.loop-place-preserved
loop-place-preserved c =
    let inside = c.loop-place-test.true in
    record {
      within = omega (arith, inside);
      same = λ ks rest.
          sym (missed_here ks c.args.run.now c.loop-place.place c.args.first c.args.second rest (omega (arith, inside)) (sym c.is_at.ensures ∙ c.if-is_at.false))
          ∙ c.loop-place.invariant.same ks rest;
    }
