use Rattle.std.proofs.Common.{◌<◌, length, rules}
use Rattle.ast.specs.View.{access}
use Rattle.plan_check.proofs.Equal.{all_same, item_differs, item_same, lengths_differ}
use Rattle.plan_check.proofs.statements.are_same_targets.Goals as goal

pub returns-then-not-is_same_access : goal.returns-then-not-is_same_access
returns-then-not-is_same_access c =
    let within : c.loop-i.i < length c.args.b.now = search rules in
    item_differs access access c.args.a.now c.args.b.now c.loop-i.i c.index-a-i.result c.index-b-i.result c.is_same_access.result c.loop-i-test.true within c.index-a-i.is c.index-b-i.is c.if-not-is_same_access.true c.is_same_access.ensures

pub returns-then-a-b : goal.returns-then-a-b
returns-then-a-b c = lengths_differ access access c.args.a.now c.args.b.now c.if-a-b.true

pub loop-i-preserved : goal.loop-i-preserved
loop-i-preserved c =
    let within : c.loop-i.i < length c.args.b.now = search rules in
    item_same access access c.args.a.now c.args.b.now c.loop-i.i c.index-a-i.result c.index-b-i.result c.is_same_access.result c.loop-i-test.true within c.index-a-i.is c.index-b-i.is c.if-not-is_same_access.false c.is_same_access.ensures c.loop-i.invariant

pub returns : goal.returns
returns c = all_same access access c.args.a.now c.args.b.now c.loop-i.i c.loop-i-test.false c.if-a-b.false c.loop-i.invariant
