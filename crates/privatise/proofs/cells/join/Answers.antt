use Rattle.std.proofs.Common.{◌∙◌, arith}
use Rattle.privatise.proofs.Changes.{join_next}
use Rattle.privatise.proofs.cells.join.Goals as goal

pub loop-cell-preserved : goal.loop-cell-preserved
loop-cell-preserved c =
    join_next c.loop-cell.walks c.args.others.now c.loop-cell.cell c.or.result _ c.walk_at.result c.or.ensures c.walk_at.ensures (let h = c.loop-cell-test.true in omega (arith, h))
    ∙ c.loop-cell.invariant
