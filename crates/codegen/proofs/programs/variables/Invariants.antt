use Rattle.std.proofs.Common.{◌≡◌, ◌≤◌, ◌*◌, map, take, true}
use Rattle.ast.specs.Symbols.{most_elements}
use Rattle.ast.specs.View.{symbol}
use Rattle.expr_code.specs.Computes.{variables_for, variables_in}
use Rattle.machine.specs.Laid.{are_laid, count_of}
use Rattle.codegen.proofs.programs.variables.Given as goal

abbrev pub invariant-loop-symbol : goal.invariant-loop-symbol
invariant-loop-symbol l =
    (variables_in l.variables.items ≡ variables_for (map symbol (take l.symbol-index l.symbols)))
    × (are_laid 0 l.variables.items ≡ true)
    × (l.start ≡ count_of l.variables.items)
    × (l.start ≤ l.symbol-index * most_elements)
