use Rattle.std.proofs.Common.{◌≡◌, ◌+◌, ◌++◌, ◌≤◌, map, drop, take}
use Rattle.ast.specs.View.{item}
use Rattle.profile_check.specs.Resolving as spec
use Rattle.profile_check.specs.ResolvingView.{table_of}
use Rattle.profile_check.proofs.resolving.resolve_items.Given as goal

abbrev pub invariant-loop-place : goal.invariant-loop-place
invariant-loop-place l = record {
  tree : map item (take l.place-index l.items) ++ spec.in_turn (λ m x. spec.item_resolved (table_of l.declarations) m x) spec.item_count l.after (map item (drop l.place-index l.items))
      ≡ spec.in_turn (λ m x. spec.item_resolved (table_of l.declarations) m x) spec.item_count l.next (map item l.fn.items);
  after : l.after ≡ l.next + spec.total spec.item_count (map item (take l.place-index l.items));
  rest : drop l.place-index l.items ≡ drop l.place-index l.fn.items;
  bound : l.after + spec.total spec.item_count (map item (drop l.place-index l.items)) ≤ l.next + spec.total spec.item_count (map item l.fn.items);
}
