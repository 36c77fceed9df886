use Rattle.std.proofs.Common.{arith}
use Rattle.activities.proofs.Passing.{told_by}
use Rattle.activities.proofs.told.ToldAwaits.is_passed.Goals as goal

pub returns-else-counts-distance : goal.returns-else-counts-distance
returns-else-counts-distance c h =
    let t = c.in-Counts.counts in
    rw c.in-Counts.is (told_by t.kernel.now.counts t.number c.args.event c.args.distance c.read.result (λ z. omega (arith, z, c.if-event-eq0.false)) (omega (arith, c.if-counts-distance.false)) c.read.ensures h)
