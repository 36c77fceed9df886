use Rattle.std.proofs.Common.{◌∙◌, sym}
use Rattle.expressions.proofs.Within.{too_deep, within_on}
use Rattle.expressions.proofs.depth.+within.Goals as goal

pub are_within-loop-tree-preserved : goal.are_within-loop-tree-preserved
are_within-loop-tree-preserved t c =
    within_on c.args.trees.now c.loop-tree.tree-index c.tree-item.result c.args.room _ c.loop-tree-test.true c.tree-item.is (sym c.is_within.ensures ∙ c.if-not-is_within.false) c.loop-tree.invariant

pub are_within-returns-then-not-is_within : goal.are_within-returns-then-not-is_within
are_within-returns-then-not-is_within t c =
    too_deep c.args.trees.now c.loop-tree.tree-index c.tree-item.result c.args.room _ c.loop-tree-test.true c.tree-item.is (sym c.is_within.ensures ∙ c.if-not-is_within.true) c.loop-tree.invariant
