use Rattle.std.proofs.Common.{◌<◌, length, rules}
use Rattle.ast.specs.View.{item}
use Rattle.plan_check.proofs.Equal.{all_same, item_differs, item_same, lengths_differ}
use Rattle.plan_check.proofs.statements.are_same_items.Goals as goal

pub returns-then-not-is_same_item : goal.returns-then-not-is_same_item
returns-then-not-is_same_item c =
    let within : c.loop-i.i < length c.args.b.now = search rules in
    item_differs item item c.args.a.now c.args.b.now c.loop-i.i c.index-a-i.result c.index-b-i.result c.is_same_item.result c.loop-i-test.true within c.index-a-i.is c.index-b-i.is c.if-not-is_same_item.true c.is_same_item.ensures

pub returns-then-a-b : goal.returns-then-a-b
returns-then-a-b c = lengths_differ item item c.args.a.now c.args.b.now c.if-a-b.true

pub loop-i-preserved : goal.loop-i-preserved
loop-i-preserved c =
    let within : c.loop-i.i < length c.args.b.now = search rules in
    item_same item item c.args.a.now c.args.b.now c.loop-i.i c.index-a-i.result c.index-b-i.result c.is_same_item.result c.loop-i-test.true within c.index-a-i.is c.index-b-i.is c.if-not-is_same_item.false c.is_same_item.ensures c.loop-i.invariant

pub returns : goal.returns
returns c = all_same item item c.args.a.now c.args.b.now c.loop-i.i c.loop-i-test.false c.if-a-b.false c.loop-i.invariant
