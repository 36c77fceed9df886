use Rattle.std.proofs.Common.{◌<◌, length, rules}
use Rattle.machine.specs.ScalarView.{scalar_of}
use Rattle.machine.proofs.Equal.{item_differs}
use Rattle.machine.proofs.same.same_privates.Goals as goal

pub returns-then-not-same_scalar : goal.returns-then-not-same_scalar
returns-then-not-same_scalar c =
    let within : c.loop-i.i < length c.args.b.now = search rules in
    item_differs scalar_of c.args.a.now c.args.b.now c.loop-i.i c.index-a-i.result c.index-b-i.result c.same_scalar.result c.loop-i-test.true within c.index-a-i.is c.index-b-i.is c.if-not-same_scalar.true c.same_scalar.ensures
