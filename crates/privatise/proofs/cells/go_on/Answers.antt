use Rattle.std.proofs.Common.{sym, arith}
use Rattle.privatise.proofs.Changes.{changed, unchanged}
use Rattle.privatise.proofs.cells.go_on.Goals as goal

pub returns-then-cell-walks : goal.returns-then-cell-walks
returns-then-cell-walks c =
    changed c.args.walks.now c.args.cell c.args.walk c.and_after.result _ c.and_after.ensures (let h = c.if-cell-walks.true in omega (arith, h))

pub returns-else-cell-walks : goal.returns-else-cell-walks
returns-else-cell-walks c = sym (unchanged c.args.walks.now c.args.cell c.args.walk (let h = c.if-cell-walks.false in omega (arith, h)))
