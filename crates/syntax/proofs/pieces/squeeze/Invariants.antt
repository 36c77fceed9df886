use Rattle.std.proofs.Common.{◌≡◌, drop}
use Rattle.syntax.specs.Squeezing.{left_of, squeezed}
use Rattle.syntax.proofs.pieces.squeeze.Given as goal

abbrev pub invariant-loop-byte : goal.invariant-loop-byte
invariant-loop-byte l = left_of l.state (drop l.byte-index l.text) ≡ squeezed l.text
