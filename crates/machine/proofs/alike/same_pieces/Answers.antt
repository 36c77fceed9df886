use Rattle.std.proofs.Common.{◌<◌, length, rules}
use Rattle.machine.specs.CodeView.{part}
use Rattle.machine.proofs.Equal.{item_differs}
use Rattle.machine.proofs.alike.same_pieces.Goals as goal

pub returns-then-not-same_piece : goal.returns-then-not-same_piece
returns-then-not-same_piece c =
    let within : c.loop-i.i < length c.args.b.now = search rules in
    item_differs part c.args.a.now c.args.b.now c.loop-i.i c.index-a-i.result c.index-b-i.result c.same_piece.result c.loop-i-test.true within c.index-a-i.is c.index-b-i.is c.if-not-same_piece.true c.same_piece.ensures
