use Rattle.std.proofs.Common.{◌≡◌, drop, length, map}
use Rattle.std.specs.Prelude.{replicate}
use Rattle.ast.specs.Tree.{arms}
use Rattle.ast.specs.View.{arm, block_view}
use Rattle.privatise.specs.Flow.{after_arms, after_block}
use Rattle.privatise.specs.declared.walk.Walk.TheVariants.{Defined}
use Rattle.privatise.proofs.flow.+flow.Given as goal

abbrev pub invariant-pass_block-loop-node : goal.invariant-pass_block-loop-node
invariant-pass_block-loop-node l = after_block (block_view (drop l.node-index l.nodes)) l.walks ≡ after_block (block_view l.nodes) l.fn.walks

abbrev pub invariant-pass_arms-loop-arm : goal.invariant-pass_arms-loop-arm
invariant-pass_arms-loop-arm l =
    after_arms (arms (map arm (drop l.arm-index l.arms))) l.ended.items l.walks
    ≡ after_arms (arms (map arm l.arms)) (replicate (length l.fn.walks) Defined) l.fn.walks
