use Rattle.std.proofs.Common.{◌≡◌, drop, map}
use Rattle.ast.specs.View.{item}
use Rattle.privatise.specs.Flow.{after_items}
use Rattle.privatise.proofs.passing.pass_items.Given as goal

abbrev pub invariant-loop-item : goal.invariant-loop-item
invariant-loop-item l = after_items (map item (drop l.item-index l.items)) l.walks ≡ after_items (map item l.items) l.fn.walks
