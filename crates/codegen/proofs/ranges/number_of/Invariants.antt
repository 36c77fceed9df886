use Rattle.std.proofs.Common.{◌≡◌, drop, map}
use Rattle.ast.specs.View.{symbol}
use Rattle.codegen.specs.Program.{place_of_name}
use Rattle.codegen.proofs.ranges.number_of.Given as goal

abbrev pub invariant-loop-symbol : goal.invariant-loop-symbol
invariant-loop-symbol l = (l.number ≡ l.symbol-index) × (place_of_name l.number (map symbol (drop l.symbol-index l.symbols)) l.name.letters ≡ place_of_name 0 (map symbol l.symbols) l.name.letters)
