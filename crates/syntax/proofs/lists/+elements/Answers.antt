use Rattle.std.proofs.Common.{map, refl}
use Rattle.ast.specs.View.{access}
use Rattle.expressions.specs.Reading.{element_at, end_at}
use Rattle.expressions.proofs.Parts.{fails_at, gives_rest, spent_at, wants_memory}
use Rattle.syntax.specs.ReadingStatements.{parts_at}
use Rattle.syntax.proofs.ListParts.{first_part, part_further, part_last, read_with}
use Rattle.syntax.proofs.lists.+elements.Goals as goal

pub returns-then-room-eq0 : goal.returns-then-room-eq0
returns-then-room-eq0 t c =
    spent_at (λ n. parts_at c.args.line (element_at c.args.line) (end_at c.args.line) n (map access c.args.read.now.items) c.args.text.now) c.spent.result c.args.room c.args.line c.if-room-eq0.true c.spent.ensures refl

pub returns-in_err-next : goal.returns-in_err-next
returns-in_err-next t c =
    fails_at _ _ _ _ _ _ c.from_residual.ensures.1 c.in_err-next.ensures (first_part c.args.line (element_at c.args.line) (end_at c.args.line) c.args.room c.if-room-eq0.false (map access c.args.read.now.items) c.args.text.now)

pub returns-in_err-push_element : goal.returns-in_err-push_element
returns-in_err-push_element t c = wants_memory _ _ _ c.from_residual-in_err-push_element.ensures.1

pub returns-in-Some : goal.returns-in-Some
returns-in-Some t c =
    gives_rest _ _ _ _ (part_further c.args.line (element_at c.args.line) (end_at c.args.line) c.args.room c.if-room-eq0.false (map access c.args.read.now.items) _ _ c.args.text.now _ _ c.in_ok-next.ensures c.in_ok-push_element.ensures c.in-Some.ensures) c.elements.ensures

pub returns-in-None : goal.returns-in-None
returns-in-None t c =
    gives_rest _ _ _ _ (part_last c.args.line (element_at c.args.line) (end_at c.args.line) c.args.room c.if-room-eq0.false (map access c.args.read.now.items) _ _ c.args.text.now _ c.in_ok-next.ensures c.in_ok-push_element.ensures c.in-None.ensures) (read_with _ _ _ _ c.end.ensures.reads)
