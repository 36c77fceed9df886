use Rattle.std.proofs.Common.{◌∙◌, arith, Some}
use Rattle.plan_check.proofs.Changes.{set_next}
use Rattle.plan_check.proofs.lists.set_nears.Goals as goal

pub loop-place-preserved : goal.loop-place-preserved
loop-place-preserved c = set_next (Some 0) c.loop-place.nears c.loop-place.place (let h = c.loop-place-test.true in omega (arith, h)) ∙ c.loop-place.invariant
