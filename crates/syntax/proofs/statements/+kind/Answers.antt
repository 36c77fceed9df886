use Rattle.std.proofs.Common.{refl}
use Rattle.expressions.proofs.Parts.{fails_at, gives_rest, spent_at}
use Rattle.syntax.specs.ReadingStatements.{kind_at}
use Rattle.syntax.specs.Squeezing.{texts_left}
use Rattle.syntax.proofs.KindParts.{inner_of, logical_of, of_class, refused}
use Rattle.syntax.proofs.statements.+kind.Goals as goal

pub returns-then-room-eq0 : goal.returns-then-room-eq0
returns-then-room-eq0 t c =
    spent_at (λ n. kind_at c.args.line n c.args.text.now (texts_left c.args.constants.now)) c.spent.result c.args.room c.args.line c.if-room-eq0.true c.spent.ensures refl

pub returns-in-BlockIf : goal.returns-in-BlockIf
returns-in-BlockIf t c = gives_rest _ _ _ _ (of_class c.args.line c.args.room c.if-room-eq0.false c.args.text.now (texts_left c.args.constants.now) _ c.in-BlockIf.ensures) c.block_if.ensures

pub returns-in_err-condition-in-LogicalIf : goal.returns-in_err-condition-in-LogicalIf
returns-in_err-condition-in-LogicalIf t c =
    fails_at _ _ _ _ _ _ c.from_residual.ensures.1 c.in_err-condition-in-LogicalIf.ensures
    (of_class c.args.line c.args.room c.if-room-eq0.false c.args.text.now (texts_left c.args.constants.now) _ c.in-LogicalIf.ensures)

pub returns-in_err-inner-in-LogicalIf : goal.returns-in_err-inner-in-LogicalIf
returns-in_err-inner-in-LogicalIf t c =
    fails_at _ _ _ _ _ _ c.from_residual-in_err-inner-in-LogicalIf.ensures.1 c.in_err-inner-in-LogicalIf.ensures
    (inner_of c.args.line c.args.room c.if-room-eq0.false c.args.text.now (texts_left c.args.constants.now) _ _ _ c.in-LogicalIf.ensures c.in_ok-condition-in-LogicalIf.ensures)

pub returns-in_ok-inner-in-LogicalIf : goal.returns-in_ok-inner-in-LogicalIf
returns-in_ok-inner-in-LogicalIf t c =
    gives_rest _ _ _ _
    (logical_of c.args.line c.args.room c.if-room-eq0.false c.args.text.now (texts_left c.args.constants.now) _ _ _ _ c.in-LogicalIf.ensures c.in_ok-condition-in-LogicalIf.ensures c.in_ok-inner-in-LogicalIf.ensures)
    c.logical_if.ensures

pub returns-in-Do : goal.returns-in-Do
returns-in-Do t c = gives_rest _ _ _ _ (of_class c.args.line c.args.room c.if-room-eq0.false c.args.text.now (texts_left c.args.constants.now) _ c.in-Do.ensures) c.do_loop.ensures

pub returns-in-Assignment : goal.returns-in-Assignment
returns-in-Assignment t c = gives_rest _ _ _ _ (of_class c.args.line c.args.room c.if-room-eq0.false c.args.text.now (texts_left c.args.constants.now) _ c.in-Assignment.ensures) c.assignment.ensures

pub returns-in-Worded : goal.returns-in-Worded
returns-in-Worded t c = gives_rest _ _ _ _ (of_class c.args.line c.args.room c.if-room-eq0.false c.args.text.now (texts_left c.args.constants.now) _ c.in-Worded.ensures) c.worded.ensures

pub returns-in-Unclosed : goal.returns-in-Unclosed
returns-in-Unclosed t c =
    refused _ _ _ _ c.malformed.ensures (of_class c.args.line c.args.room c.if-room-eq0.false c.args.text.now (texts_left c.args.constants.now) _ c.in-Unclosed.ensures)

pub returns-in-Unknown : goal.returns-in-Unknown
returns-in-Unknown t c =
    refused _ _ _ _ c.refused.ensures (of_class c.args.line c.args.room c.if-room-eq0.false c.args.text.now (texts_left c.args.constants.now) _ c.in-Unknown.ensures)
