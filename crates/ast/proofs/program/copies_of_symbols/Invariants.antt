use Rattle.std.proofs.Common.{◌≡◌, map, take}
use Rattle.ast.specs.View.{symbol}
use Rattle.ast.proofs.program.copies_of_symbols.Given as goal

abbrev pub invariant-loop-symbol : goal.invariant-loop-symbol
invariant-loop-symbol l = map symbol l.copies.items ≡ map symbol (take l.symbol-index l.symbols)
