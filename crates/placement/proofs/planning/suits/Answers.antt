use Rattle.std.proofs.Common.{subst, sym}
use Rattle.loop_tree.specs.TreeView.{seen}
use Rattle.placement.specs.Judged.{IsSuiting}
use Rattle.placement.proofs.Judging.{suiting_by}
use Rattle.placement.proofs.planning.suits.Goals as goal

pub returns : goal.returns
returns c = λ whole.
    let l = seen c.args.view.now in
    subst (λ b. IsSuiting l b) (sym c.suits.ensures) (suiting_by l whole c.args.view.now.told c.in_ok-judged.judged c.in_ok-judged.ensures)
