use Rattle.std.proofs.Common.{◌≡◌, drop, map}
use Rattle.std.specs.Prelude.{◌++◌}
use Rattle.machine.specs.CodeView.{part}
use Rattle.engines.specs.CodeLines.{part_words}
use Rattle.engines.proofs.code_lines.append_parts.Given as goal

abbrev pub invariant-loop-piece : goal.invariant-loop-piece
invariant-loop-piece l = l.out.items ++ part_words (map part (drop l.piece-index l.pieces)) ≡ l.fn.out.items ++ part_words (map part l.pieces)
