use Rattle.std.proofs.Common.{◌≡◌, map, take}
use Rattle.ast.specs.View.{letters, symbol}
use Rattle.expr_code.specs.Emitted.{short}
use Rattle.codegen.specs.Program.{place_of_name}
use Rattle.codegen.proofs.ranges.numbers_of.Given as goal

abbrev pub invariant-loop-name : goal.invariant-loop-name
invariant-loop-name l = l.numbers.items ≡ map (λ name. short (place_of_name 0 (map symbol l.symbols) name)) (map letters (take l.name-index l.names))
