use Rattle.std.proofs.Common.{◌≡◌, true, map, drop}
use Rattle.ast.specs.View.{item as item_of}
use Rattle.tree_run.specs.Placed.{PlacedItems}
use Rattle.ast.specs.Record.{Keeps}
use Rattle.tree_run.specs.Printing.{items_onto}
use Rattle.tree_run.specs.View.{look, symbols_in}
use Rattle.tree_run.proofs.print.append_items.Given as goal

abbrev pub invariant-loop-item : goal.invariant-loop-item
invariant-loop-item l = record {
  placed : PlacedItems (symbols_in l.memory) (map item_of (drop l.item-index l.items));
  onto : items_onto l.output.items l.is_first (map item_of (drop l.item-index l.items)) (look l.memory) ≡ items_onto l.fn.output.items true (map item_of l.items) (look l.memory);
  kept : Keeps l.fn.output.items l.output.items;
}
