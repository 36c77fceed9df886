use Rattle.std.proofs.Common.{ap, refl, map, option_map}
use Rattle.ast.specs.View.{term}
use Rattle.expressions.specs.Ranks.{rank}
use Rattle.expressions.specs.Reading.{access_at, chain_at, further_at, level_at, list_at, operand_at, primary_at, subscripts_at}
use Rattle.expressions.proofs.Parts.{access_name, access_read, access_subscripts, chain_ends, chain_further, chain_next, chain_related, fails_at, further_closes, further_comma, gives_rest, goes_on, level_first, level_primary, level_then, list_further, list_next, operand_element, operand_found, operand_read, primary_inside, primary_operand, spent_at, subscripts_inside, subscripts_none, wants_memory}
use Rattle.expressions.proofs.parse.+parse.Goals as goal

pub chain-returns-then-room-eq0 : goal.chain-returns-then-room-eq0
chain-returns-then-room-eq0 t c =
    spent_at (λ n. chain_at c.args.reader.line n (rank c.args.at) (term c.args.left) c.args.text.now) c.spent.result c.args.room c.args.reader.line c.if-room-eq0.true c.spent.ensures refl

pub chain-returns-in_err-right-in-Some : goal.chain-returns-in_err-right-in-Some
chain-returns-in_err-right-in-Some t c =
    fails_at _ _ _ _ _ _ c.from_residual.ensures.1 c.in_err-right-in-Some.ensures (chain_next _ _ c.if-room-eq0.false _ _ _ _ _ _ c.in-Some.ensures c.below.ensures)

pub chain-returns-in_err-both-in-Some : goal.chain-returns-in_err-both-in-Some
chain-returns-in_err-both-in-Some t c = wants_memory _ _ _ c.from_residual-in_err-both-in-Some.ensures.1

pub chain-returns-then-is_relation : goal.chain-returns-then-is_relation
chain-returns-then-is_relation t c =
    chain_related _ _ c.if-room-eq0.false _ _ _ _ _ _ _ _ _ c.in-Some.ensures c.below.ensures c.in_ok-right-in-Some.ensures c.in_ok-both-in-Some.ensures c.if-is_relation.ensures

pub chain-returns-else-is_relation : goal.chain-returns-else-is_relation
chain-returns-else-is_relation t c =
    gives_rest _ _ _ _
    (chain_further _ _ c.if-room-eq0.false _ _ _ _ _ _ _ _ _ c.in-Some.ensures c.below.ensures c.in_ok-right-in-Some.ensures c.in_ok-both-in-Some.ensures c.if-is_relation.ensures)
    c.chain.ensures

pub chain-returns-in-None : goal.chain-returns-in-None
chain-returns-in-None t c = chain_ends _ _ c.if-room-eq0.false _ _ _ c.in-None.ensures

pub element-returns-then-room-eq0 : goal.element-returns-then-room-eq0
element-returns-then-room-eq0 t c =
    spent_at (λ n. access_at c.args.reader.line n c.args.text.now) c.spent.result c.args.room c.args.reader.line c.if-room-eq0.true c.spent.ensures refl

pub element-returns-in_err-name : goal.element-returns-in_err-name
element-returns-in_err-name t c = fails_at _ _ _ _ _ _ c.from_residual.ensures.1 c.in_err-name.ensures.reads (access_name _ _ c.if-room-eq0.false _)

pub element-returns-in_err-subscripts : goal.element-returns-in_err-subscripts
element-returns-in_err-subscripts t c =
    fails_at _ _ _ _ _ _ c.from_residual-in_err-subscripts.ensures.1 c.in_err-subscripts.ensures (access_subscripts _ _ c.if-room-eq0.false _ _ _ c.in_ok-name.ensures.reads)

pub element-returns : goal.element-returns
element-returns t c =
    access_read _ _ c.if-room-eq0.false _ _ _ _ _ c.in_ok-name.ensures.reads c.in_ok-subscripts.ensures c.reference_to-reference.ensures

pub further-returns-then-room-eq0 : goal.further-returns-then-room-eq0
further-returns-then-room-eq0 t c =
    spent_at (λ n. further_at c.args.reader.line n (map term c.args.read.items) c.args.text.now) c.spent.result c.args.room c.args.reader.line c.if-room-eq0.true c.spent.ensures refl

pub further-returns-in_err-wanted-in-None : goal.further-returns-in_err-wanted-in-None
further-returns-in_err-wanted-in-None t c =
    fails_at _ _ _ _ _ _ c.from_residual.ensures.1 c.in_err-wanted-in-None.ensures.reads (further_closes _ _ c.if-room-eq0.false _ _ c.in-None.ensures)

pub further-returns-in-Some : goal.further-returns-in-Some
further-returns-in-Some t c = gives_rest _ _ _ _ (further_comma _ _ c.if-room-eq0.false _ _ _ c.in-Some.ensures) c.list.ensures

pub further-returns-in_ok-wanted-in-None : goal.further-returns-in_ok-wanted-in-None
further-returns-in_ok-wanted-in-None t c =
    goes_on _ _ _ _ c.in_ok-wanted-in-None.ensures.reads (further_closes _ _ c.if-room-eq0.false _ _ c.in-None.ensures)

pub level-returns-then-room-eq0 : goal.level-returns-then-room-eq0
level-returns-then-room-eq0 t c =
    spent_at (λ n. level_at c.args.reader.line n (rank c.args.at) c.args.text.now) c.spent.result c.args.room c.args.reader.line c.if-room-eq0.true c.spent.ensures refl

pub level-returns-then-is_primary : goal.level-returns-then-is_primary
level-returns-then-is_primary t c = gives_rest _ _ _ _ (level_primary _ _ c.if-room-eq0.false _ _ c.if-is_primary.ensures) c.primary.ensures

pub level-returns-in_err-operand : goal.level-returns-in_err-operand
level-returns-in_err-operand t c =
    fails_at _ _ _ _ _ _ c.from_residual.ensures.1 c.in_err-operand.ensures
    (level_first _ _ c.if-room-eq0.false _ _ _ _ _ c.if-is_primary.ensures c.prefix_at-prefix.ensures c.below.ensures)

pub level-returns-in_err-first : goal.level-returns-in_err-first
level-returns-in_err-first t c = wants_memory _ _ _ c.from_residual-in_err-first.ensures.1

pub level-returns : goal.level-returns
level-returns t c =
    gives_rest _ _ _ _
    (level_then _ _ c.if-room-eq0.false _ _ _ _ _ _ _ _ c.if-is_primary.ensures c.prefix_at-prefix.ensures c.below.ensures c.in_ok-operand.ensures c.in_ok-first.ensures)
    c.chain.ensures

pub list-returns-then-room-eq0 : goal.list-returns-then-room-eq0
list-returns-then-room-eq0 t c =
    spent_at (λ n. list_at c.args.reader.line n (map term c.args.read.items) c.args.text.now) c.spent.result c.args.room c.args.reader.line c.if-room-eq0.true c.spent.ensures refl

pub list-returns-in_err-next : goal.list-returns-in_err-next
list-returns-in_err-next t c = fails_at _ _ _ _ _ _ c.from_residual.ensures.1 c.in_err-next.ensures (list_next _ _ c.if-room-eq0.false _ _)

pub list-returns-in_err-longer : goal.list-returns-in_err-longer
list-returns-in_err-longer t c = wants_memory _ _ _ c.from_residual-in_err-longer.ensures.1

pub list-returns : goal.list-returns
list-returns t c = gives_rest _ _ _ _ (list_further _ _ c.if-room-eq0.false _ _ _ _ _ c.in_ok-next.ensures c.in_ok-longer.ensures) c.further.ensures

pub operand-returns-then-room-eq0 : goal.operand-returns-then-room-eq0
operand-returns-then-room-eq0 t c =
    spent_at (λ n. operand_at c.args.reader.line n (option_map (λ x. (term x.0, x.1.now)) c.args.found) c.args.text.now) c.spent.result c.args.room c.args.reader.line c.if-room-eq0.true c.spent.ensures refl

pub operand-returns-in_err-access-in-None : goal.operand-returns-in_err-access-in-None
operand-returns-in_err-access-in-None t c =
    fails_at _ _ _ _ _ _ c.from_residual.ensures.1 c.in_err-access-in-None.ensures
    (operand_element _ _ c.if-room-eq0.false _ _ (ap (option_map (λ x. (term x.0, x.1.now))) c.in-None.is))

pub operand-returns-in-Some : goal.operand-returns-in-Some
operand-returns-in-Some t c = operand_found _ _ c.if-room-eq0.false _ _ _ (ap (option_map (λ x. (term x.0, x.1.now))) c.in-Some.is)

pub operand-returns-in_ok-access-in-None : goal.operand-returns-in_ok-access-in-None
operand-returns-in_ok-access-in-None t c =
    operand_read _ _ c.if-room-eq0.false _ _ _ _ (ap (option_map (λ x. (term x.0, x.1.now))) c.in-None.is) c.in_ok-access-in-None.ensures

pub primary-returns-then-room-eq0 : goal.primary-returns-then-room-eq0
primary-returns-then-room-eq0 t c =
    spent_at (λ n. primary_at c.args.reader.line n c.args.text.now) c.spent.result c.args.room c.args.reader.line c.if-room-eq0.true c.spent.ensures refl

pub primary-returns-in_err-inner-in-Some : goal.primary-returns-in_err-inner-in-Some
primary-returns-in_err-inner-in-Some t c =
    fails_at _ _ _ _ _ _ c.from_residual.ensures.1 c.in_err-inner-in-Some.ensures (primary_inside _ _ c.if-room-eq0.false _ _ c.in-Some.ensures)

pub primary-returns-in_err-found-in-None : goal.primary-returns-in_err-found-in-None
primary-returns-in_err-found-in-None t c =
    fails_at _ _ _ _ _ _ c.from_residual-in_err-found-in-None.ensures.1 c.in_err-found-in-None.ensures.reads (primary_operand _ _ c.if-room-eq0.false _ c.in-None.ensures)

pub primary-returns-in_ok-inner-in-Some : goal.primary-returns-in_ok-inner-in-Some
primary-returns-in_ok-inner-in-Some t c =
    gives_rest _ _ _ _ (goes_on _ _ _ _ c.in_ok-inner-in-Some.ensures (primary_inside _ _ c.if-room-eq0.false _ _ c.in-Some.ensures)) c.closed.ensures

pub primary-returns-in_ok-found-in-None : goal.primary-returns-in_ok-found-in-None
primary-returns-in_ok-found-in-None t c =
    gives_rest _ _ _ _ (goes_on _ _ _ _ c.in_ok-found-in-None.ensures.reads (primary_operand _ _ c.if-room-eq0.false _ c.in-None.ensures)) c.operand.ensures

pub subscripts-returns-then-room-eq0 : goal.subscripts-returns-then-room-eq0
subscripts-returns-then-room-eq0 t c =
    spent_at (λ n. subscripts_at c.args.reader.line n c.args.text.now) c.spent.result c.args.room c.args.reader.line c.if-room-eq0.true c.spent.ensures refl

pub subscripts-returns-in-Some : goal.subscripts-returns-in-Some
subscripts-returns-in-Some t c =
    gives_rest _ _ _ _ (subscripts_inside _ _ c.if-room-eq0.false _ _ _ c.in-Some.ensures (ap (map term) c.new.ensures.items)) c.list.ensures

pub subscripts-returns-in-None : goal.subscripts-returns-in-None
subscripts-returns-in-None t c = subscripts_none _ _ c.if-room-eq0.false _ _ c.in-None.ensures (ap (map term) c.new-in-None.ensures.items)
