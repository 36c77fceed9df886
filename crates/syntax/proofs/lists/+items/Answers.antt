use Rattle.std.proofs.Common.{map, refl}
use Rattle.ast.specs.View.{item}
use Rattle.expressions.proofs.Parts.{fails_at, gives_rest, spent_at, wants_memory}
use Rattle.syntax.specs.ReadingStatements.{items_from}
use Rattle.syntax.specs.Squeezing.{texts_left}
use Rattle.syntax.proofs.ListParts.{first_item, item_further, item_last, read_all}
use Rattle.syntax.proofs.lists.+items.Goals as goal

pub returns-then-room-eq0 : goal.returns-then-room-eq0
returns-then-room-eq0 t c =
    spent_at (λ n. items_from c.args.line n (map item c.args.read.now.items) c.args.text.now (texts_left c.args.constants.now)) c.spent.result c.args.room c.args.line c.if-room-eq0.true c.spent.ensures refl

pub returns-in_err-next : goal.returns-in_err-next
returns-in_err-next t c =
    fails_at _ _ _ _ _ _ c.from_residual.ensures.1 c.in_err-next.ensures (first_item c.args.line c.args.room c.if-room-eq0.false (map item c.args.read.now.items) c.args.text.now (texts_left c.args.constants.now))

pub returns-in_err-push_item : goal.returns-in_err-push_item
returns-in_err-push_item t c = wants_memory _ _ _ c.from_residual-in_err-push_item.ensures.1

pub returns-in-Some : goal.returns-in-Some
returns-in-Some t c =
    gives_rest _ _ _ _ (item_further c.args.line c.args.room c.if-room-eq0.false (map item c.args.read.now.items) _ _ c.args.text.now _ _ _ _ c.in_ok-next.ensures c.in_ok-push_item.ensures c.in-Some.ensures) c.items.ensures

pub returns-in-None : goal.returns-in-None
returns-in-None t c =
    gives_rest _ _ _ _ (item_last c.args.line c.args.room c.if-room-eq0.false (map item c.args.read.now.items) _ _ c.args.text.now _ _ _ c.in_ok-next.ensures c.in_ok-push_item.ensures c.in-None.ensures) (read_all _ _ _ _ c.end.ensures.reads)
