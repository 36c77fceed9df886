use Rattle.std.proofs.Common.{◌∙◌, arith, true}
use Rattle.plan_check.proofs.Changes.{set_next}
use Rattle.plan_check.proofs.lists.set_flags.Goals as goal

pub loop-place-preserved : goal.loop-place-preserved
loop-place-preserved c = set_next true c.loop-place.flags c.loop-place.place (let h = c.loop-place-test.true in omega (arith, h)) ∙ c.loop-place.invariant
