use Rattle.std.proofs.Common.{◌≡◌, map, drop}
use Rattle.indexmap.specs.IndexSet.{insert_all}
use Rattle.ast.specs.Store.{same_name}
use Rattle.ast.specs.View.{letters, statement}
use Rattle.profile_check.specs.Checking.{table_of}
use Rattle.profile_check.specs.Rules.{typed_in_whole}
use Rattle.profile_check.proofs.check.typed_anywhere.Given as goal

abbrev pub invariant-loop-stmt : goal.invariant-loop-stmt
invariant-loop-stmt l =
    insert_all same_name (map letters l.typed.keys) (typed_in_whole (map statement (drop l.stmt-index l.stmts)))
    ≡ table_of (typed_in_whole (map statement l.stmts))
