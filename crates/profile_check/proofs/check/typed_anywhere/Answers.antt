use Rattle.std.proofs.Common.{map}
use Rattle.ast.specs.View.{letters}
use Rattle.profile_check.proofs.Tables.{typed_on}
use Rattle.profile_check.proofs.check.typed_anywhere.Goals as goal

pub loop-stmt-preserved : goal.loop-stmt-preserved
loop-stmt-preserved c = typed_on c.args.stmts.now c.loop-stmt.stmt-index c.stmt-item.result (map letters c.loop-stmt.typed.keys) (map letters c.add_typed.new.typed.keys) _ c.loop-stmt-test.true c.stmt-item.is c.in_ok-add_typed.ensures c.loop-stmt.invariant
