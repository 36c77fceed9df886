use Rattle.std.proofs.Common.{◌≡◌, length}
use Rattle.ast.specs.Input.{cut_at}
use Rattle.values.specs.Scanning.{passing, pieces, words_onto}
use Rattle.values.specs.declared.scanner.Separator.TheVariants.{Blank}
use Rattle.values.proofs.scanner.add_words.Given as goal

abbrev pub invariant-loop-rest : goal.invariant-loop-rest
invariant-loop-rest l = words_onto l.integers.items (pieces Blank l.rest) ≡ words_onto l.fn.integers.items (cut_at (passing Blank) l.part)

abbrev pub decreases-loop-rest : goal.decreases-loop-rest
decreases-loop-rest l = length (pieces Blank l.rest)
