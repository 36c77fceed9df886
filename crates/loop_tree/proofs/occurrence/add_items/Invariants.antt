use Rattle.std.proofs.Common.{◌≡◌, drop, map}
use Rattle.std.specs.Prelude.{◌++◌}
use Rattle.ast.specs.View.{item}
use Rattle.loop_tree.specs.Occurrences.{items_occurrences}
use Rattle.loop_tree.specs.View.{occurrence}
use Rattle.loop_tree.proofs.occurrence.add_items.Given as goal

abbrev pub invariant-loop-item : goal.invariant-loop-item
invariant-loop-item l =
    map occurrence l.list.items ++ items_occurrences l.statement (map item (drop l.item-index l.items))
    ≡ map occurrence l.fn.list.items ++ items_occurrences l.statement (map item l.items)
