use Rattle.std.proofs.Common.{map, refl}
use Rattle.ast.specs.View.{item}
use Rattle.loop_tree.specs.Occurrences.{item_occurrences, items_occurrences}
use Rattle.loop_tree.proofs.Occurring.{all_occurred, next_occurs}
use Rattle.loop_tree.proofs.occurrence.add_items.Goals as goal

pub loop-item-preserved : goal.loop-item-preserved
loop-item-preserved c =
    next_occurs (λ i. item_occurrences c.args.statement (item i)) (λ is. items_occurrences c.args.statement (map item is)) (λ i is. refl) c.args.items.now c.loop-item.item-index c.item-item.result _ _ _ c.loop-item-test.true c.item-item.is c.in_ok-add_item.ensures c.loop-item.invariant

pub returns : goal.returns
returns c =
    all_occurred (λ i. item_occurrences c.args.statement (item i)) (λ is. items_occurrences c.args.statement (map item is)) refl c.args.items.now c.loop-item.item-index _ _ c.loop-item-test.false c.loop-item.invariant
