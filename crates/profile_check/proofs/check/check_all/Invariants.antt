use Rattle.std.proofs.Common.{◌≡◌, map, drop}
use Rattle.ast.specs.View.{letters, statement}
use Rattle.profile_check.specs.Checking.{checked}
use Rattle.profile_check.specs.CheckingView.{before}
use Rattle.profile_check.proofs.check.check_all.Given as goal

abbrev pub invariant-loop-stmt : goal.invariant-loop-stmt
invariant-loop-stmt l = record {
  count : l.seen.count ≡ l.stmt-index;
  rules : checked (map letters l.typed.keys) (before l.seen) (map statement (drop l.stmt-index l.stmts))
      ≡ checked (map letters l.typed.keys) (before l.fn.seen) (map statement l.stmts);
}
