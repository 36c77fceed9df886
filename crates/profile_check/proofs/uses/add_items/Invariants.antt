use Rattle.std.proofs.Common.{◌≡◌, ◌++◌, map, drop}
use Rattle.ast.specs.View.{item}
use Rattle.profile_check.specs.Uses as spec
use Rattle.profile_check.specs.UsesView.{use_of}
use Rattle.profile_check.proofs.uses.add_items.Given as goal

abbrev pub invariant-loop-item : goal.invariant-loop-item
invariant-loop-item l =
    map use_of l.uses.items ++ spec.all_uses spec.item_uses (map item (drop l.item-index l.items))
    ≡ map use_of l.fn.uses.items ++ spec.all_uses spec.item_uses (map item l.items)
