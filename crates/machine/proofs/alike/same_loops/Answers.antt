use Rattle.std.proofs.Common.{◌<◌, length, rules}
use Rattle.machine.specs.CodeView.{loop_of}
use Rattle.machine.proofs.Equal.{item_differs}
use Rattle.machine.proofs.alike.same_loops.Goals as goal

pub returns-then-not-same_loop : goal.returns-then-not-same_loop
returns-then-not-same_loop c =
    let within : c.loop-i.i < length c.args.b.now = search rules in
    item_differs loop_of c.args.a.now c.args.b.now c.loop-i.i c.index-a-i.result c.index-b-i.result c.same_loop.result c.loop-i-test.true within c.index-a-i.is c.index-b-i.is c.if-not-same_loop.true c.same_loop.ensures
