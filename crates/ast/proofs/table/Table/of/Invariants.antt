use Rattle.std.proofs.Common.{◌≡◌, drop, map, take, true}
use Rattle.std.specs.List.{list_all}
use Rattle.ast.specs.Symbols.{is_sized, shapes_of}
use Rattle.ast.specs.View.{shapes, symbol}
use Rattle.ast.proofs.table.Table.of.Given as goal

abbrev pub invariant-loop-symbol : goal.invariant-loop-symbol
invariant-loop-symbol l =
    (shapes l.table ≡ shapes_of (map symbol (take l.symbol-index l.symbols)))
    × (list_all is_sized (map symbol (drop l.symbol-index l.symbols)) ≡ true)
