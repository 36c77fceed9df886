use Rattle.std.proofs.Common.{◌≡◌, ◌++◌, drop, map}
use Rattle.ast.specs.View.{item as item_of}
use Rattle.codegen.specs.Emitted.{parts_of}
use Rattle.codegen.specs.Records.{pieces_of}
use Rattle.codegen.proofs.statements.pieces.Given as goal

abbrev pub invariant-loop-item : goal.invariant-loop-item
invariant-loop-item l = pieces_of l.pieces ++ parts_of (map item_of (drop l.item-index l.items)) ≡ parts_of (map item_of l.items)
