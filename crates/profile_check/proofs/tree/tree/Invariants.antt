use Rattle.std.proofs.Common.{◌≡◌, ◌+◌, ◌<◌, ◌^◌, map}
use Rattle.ast.specs.View.{statement}
use Rattle.profile_check.specs.Nesting.{nested_from, nested}
use Rattle.profile_check.specs.NestingView.{nest_of}
use Rattle.profile_check.specs.Resolving as spec
use Rattle.profile_check.specs.ResolvingView.{table_of}
use Rattle.profile_check.proofs.tree.tree.Given as goal

abbrev pub invariant-loop-stmt : goal.invariant-loop-stmt
invariant-loop-stmt l = record {
  can_next : (goal.iterator-loop-stmt).can_next l.stmt-iterator;
  is_finite : (goal.iterator-loop-stmt).is_finite l.stmt-iterator;
  tree : nested_from (nest_of l.nest) (spec.statements_resolved (table_of l.declarations) l.next (map statement l.stmt-iterator.rest.items))
      ≡ nested (spec.statements_resolved (table_of l.declarations) 0 (map statement l.fn.stmts.items));
  bound : l.next + spec.references_in (map statement l.stmt-iterator.rest.items) < 2 ^ 64;
}
