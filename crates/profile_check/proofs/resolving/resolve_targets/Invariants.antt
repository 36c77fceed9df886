use Rattle.std.proofs.Common.{◌≡◌, ◌+◌, ◌++◌, ◌≤◌, map, drop, take}
use Rattle.ast.specs.View.{access}
use Rattle.profile_check.specs.Resolving as spec
use Rattle.profile_check.specs.ResolvingView.{table_of}
use Rattle.profile_check.proofs.resolving.resolve_targets.Given as goal

abbrev pub invariant-loop-place : goal.invariant-loop-place
invariant-loop-place l = record {
  tree : map access (take l.place-index l.targets) ++ spec.in_turn (λ m x. spec.access_resolved (table_of l.declarations) m x) spec.access_count l.after (map access (drop l.place-index l.targets))
      ≡ spec.in_turn (λ m x. spec.access_resolved (table_of l.declarations) m x) spec.access_count l.next (map access l.fn.targets);
  after : l.after ≡ l.next + spec.total spec.access_count (map access (take l.place-index l.targets));
  rest : drop l.place-index l.targets ≡ drop l.place-index l.fn.targets;
  bound : l.after + spec.total spec.access_count (map access (drop l.place-index l.targets)) ≤ l.next + spec.total spec.access_count (map access l.fn.targets);
}
