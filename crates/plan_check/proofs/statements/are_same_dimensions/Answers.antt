use Rattle.std.proofs.Common.{◌<◌, length, rules}
use Rattle.ast.specs.View.{bounds}
use Rattle.plan_check.proofs.Equal.{all_same, item_differs, item_same, lengths_differ}
use Rattle.plan_check.proofs.statements.are_same_dimensions.Goals as goal

pub returns-then-not-is_same_dimension : goal.returns-then-not-is_same_dimension
returns-then-not-is_same_dimension c =
    let within : c.loop-i.i < length c.args.b.now = search rules in
    item_differs bounds bounds c.args.a.now c.args.b.now c.loop-i.i c.index-a-i.result c.index-b-i.result c.is_same_dimension.result c.loop-i-test.true within c.index-a-i.is c.index-b-i.is c.if-not-is_same_dimension.true c.is_same_dimension.ensures

pub returns-then-a-b : goal.returns-then-a-b
returns-then-a-b c = lengths_differ bounds bounds c.args.a.now c.args.b.now c.if-a-b.true

pub loop-i-preserved : goal.loop-i-preserved
loop-i-preserved c =
    let within : c.loop-i.i < length c.args.b.now = search rules in
    item_same bounds bounds c.args.a.now c.args.b.now c.loop-i.i c.index-a-i.result c.index-b-i.result c.is_same_dimension.result c.loop-i-test.true within c.index-a-i.is c.index-b-i.is c.if-not-is_same_dimension.false c.is_same_dimension.ensures c.loop-i.invariant

pub returns : goal.returns
returns c = all_same bounds bounds c.args.a.now c.args.b.now c.loop-i.i c.loop-i-test.false c.if-a-b.false c.loop-i.invariant
