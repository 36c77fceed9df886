use Rattle.std.proofs.Common.{◌≡◌, map, drop}
use Rattle.std.specs.List.{list_all}
use Rattle.ast.specs.View.{item}
use Rattle.profile_check.specs.Rules.{item_is_integral}
use Rattle.profile_check.proofs.kinds.items_are_integral.Given as goal

abbrev pub invariant-loop-item : goal.invariant-loop-item
invariant-loop-item l = list_all item_is_integral (map item (drop l.item-index l.items)) ≡ list_all item_is_integral (map item l.items)
