use Rattle.expressions.proofs.Parts.{gives_rest}
use Rattle.syntax.proofs.KindParts.{labelled, overlong, refused}
use Rattle.syntax.proofs.loops.do_head.Goals as goal

pub returns-then-count-gt-MOST_DIGITS : goal.returns-then-count-gt-MOST_DIGITS
returns-then-count-gt-MOST_DIGITS c =
    refused _ _ _ _ c.malformed.ensures (overlong c.args.line c.args.text.now c.digits-count.result c.digits-count.ensures.value c.if-count-gt-MOST_DIGITS.true)

pub returns : goal.returns
returns c =
    gives_rest _ _ _ _
    (labelled c.args.line c.args.text.now c.digits-count.result c.digits-count.ensures.value _ _ c.if-count-gt-MOST_DIGITS.false c.number-terminal.ensures c.without_comma.ensures)
    c.counted.ensures
