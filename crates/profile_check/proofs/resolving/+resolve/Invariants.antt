use Rattle.std.proofs.Common.{◌≡◌, ◌+◌, ◌++◌, ◌≤◌, map, drop, take}
use Rattle.ast.specs.Tree.{terms}
use Rattle.ast.specs.View.{term}
use Rattle.profile_check.specs.Resolving as spec
use Rattle.profile_check.specs.ResolvingView.{table_of}
use Rattle.profile_check.proofs.Weights.{weight, weight_terms, weight_all}
use Rattle.profile_check.proofs.resolving.+resolve.Given as goal

abbrev pub invariant-resolve_all-loop-place : goal.invariant-resolve_all-loop-place
invariant-resolve_all-loop-place l = record {
  tree : map term (take l.place-index l.list) ++ spec.list_resolved (table_of l.declarations) l.after (map term (drop l.place-index l.list))
      ≡ spec.list_resolved (table_of l.declarations) l.next (map term l.fn.list);
  after : l.after ≡ l.next + spec.count_all (map term (take l.place-index l.list));
  rest : drop l.place-index l.list ≡ drop l.place-index l.fn.list;
  bound : l.after + spec.count_all (map term (drop l.place-index l.list)) ≤ l.next + spec.count_all (map term l.fn.list);
}

abbrev pub decreases-resolve : goal.decreases-resolve
decreases-resolve l = weight (term l.expression.now)

abbrev pub decreases-resolve_box : goal.decreases-resolve_box
decreases-resolve_box l = weight (term l.place.now.value) + 1

abbrev pub decreases-resolve_all : goal.decreases-resolve_all
decreases-resolve_all l = weight_all (map term l.list.now) + 1

abbrev pub decreases-resolve_list : goal.decreases-resolve_list
decreases-resolve_list l = weight_all (map term l.list.now.items) + 2

abbrev pub decreases-resolve_terms : goal.decreases-resolve_terms
decreases-resolve_terms l = weight_terms (terms (map term l.list.now.items)) + 3

abbrev pub decreases-resolve_listed : goal.decreases-resolve_listed
decreases-resolve_listed l = weight_terms (terms (map term l.access.now.subscripts.items)) + 4

abbrev pub decreases-resolve_element : goal.decreases-resolve_element
decreases-resolve_element l = weight_terms (terms (map term l.access.now.subscripts.items)) + 5
