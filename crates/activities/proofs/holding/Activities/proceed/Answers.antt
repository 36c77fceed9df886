use Rattle.std.proofs.Common.{◌≡◌, ◌+◌, ◌-◌, ℕ, subst, arith}
use Rattle.activities.specs.Activities.{code_in, point_in}
use Rattle.activities.specs.Points.{Proceeds}
use Rattle.activities.proofs.Proceeds.{went_further}
use Rattle.activities.proofs.Strode.{stays_on}
use Rattle.activities.proofs.holding.Activities.proceed.Goals as goal

pub loop-left-preserved : goal.loop-left-preserved
loop-left-preserved c =
    let old = c.args.self.now in
    let here = c.loop-left.self in
    let new = c.proceed_once-made.new.self in
    let before = c.args.n - c.loop-left.left in
    let made = c.proceed_once-made.result in
    let so_many : before + made ≡ c.args.n - (c.loop-left.left - made) = omega (arith, c.loop-left.invariant.few, c.proceed_once-made.ensures.few) in
    record {
      few = omega (arith, c.loop-left.invariant.few);
      made = subst (λ (k : ℕ). Proceeds c.args.begins (code_in old) old.slots k (point_in old) c.args.q (point_in new)) so_many
          (went_further c.args.begins before made c.args.q old here new c.loop-left.invariant.stays c.loop-left.invariant.made c.proceed_once-made.ensures.made);
      stand = c.proceed_once-made.ensures.stand;
      stays = stays_on old here new c.loop-left.invariant.stays c.proceed_once-made.ensures.stays;
    }
