use Rattle.std.proofs.Common.{◌≡◌, ◌++◌, drop, map}
use Rattle.ast.specs.View.{item as item_of}
use Rattle.codegen.specs.Emitted.{items_code}
use Rattle.expr_code.specs.PlacesView.{places_of}
use Rattle.codegen.proofs.statements.values.Given as goal

abbrev pub invariant-loop-item : goal.invariant-loop-item
invariant-loop-item l = l.code.items ++ items_code (places_of l.places) (map item_of (drop l.item-index l.items)) ≡ l.fn.code.items ++ items_code (places_of l.places) (map item_of l.items)
