use Rattle.std.proofs.Common.{◌∙◌, ◌+◌, ap, map, sym}
use Rattle.ast.specs.View.{letters}
use Rattle.profile_check.specs.Checking.{Before}
use Rattle.profile_check.specs.CheckingView.{before}
use Rattle.profile_check.proofs.Steps.{all-passed, next-statement, passed, refused}
use Rattle.profile_check.proofs.check.check_all.Goals as goal

pub returns-in_err-check_statement : goal.returns-in_err-check_statement
returns-in_err-check_statement c =
    refused c.from_residual.result c.in_err-check_statement.field-0.0 _ _ _ _ c.from_residual.ensures.1 c.in_err-check_statement.ensures.rule
    (sym (next-statement _ _ c.args.stmts.now c.loop-stmt.stmt-index c.stmt-item.result c.loop-stmt-test.true c.stmt-item.is) ∙ c.loop-stmt.invariant.rules)

pub loop-stmt-preserved : goal.loop-stmt-preserved
loop-stmt-preserved c =
    let more = c.in_ok-check_statement.ensures.seen in
    record {
      count = ap (λ (b : Before). b.count) more ∙ ap (λ n. n + 1) c.loop-stmt.invariant.count;
      rules = passed (map letters c.args.typed.now.keys) (before c.loop-stmt.seen) (before c.check_statement.new.seen) c.args.stmts.now c.loop-stmt.stmt-index c.stmt-item.result _ c.loop-stmt-test.true c.stmt-item.is more c.in_ok-check_statement.ensures.rule c.loop-stmt.invariant.rules;
    }

pub returns : goal.returns
returns c = sym (all-passed (map letters c.args.typed.now.keys) (before c.loop-stmt.seen) c.args.stmts.now c.loop-stmt.stmt-index _ c.loop-stmt-test.false c.loop-stmt.invariant.rules)
