use Rattle.std.proofs.Common.{◌≡◌, ◌++◌, drop, map, true}
use Rattle.std.specs.List.{list_all}
use Rattle.ast.specs.Symbols.{is_sized}
use Rattle.ast.specs.View.{cells, symbol}
use Rattle.command_output.specs.View.{row_view, rows_from}
use Rattle.command_output.proofs.store_rows.rows.Given as goal

abbrev pub invariant-loop-place : goal.invariant-loop-place
invariant-loop-place l =
    (list_all is_sized (map symbol (drop l.place l.symbols)) ≡ true)
    × (map row_view l.rows.items ++ rows_from (cells l.store) l.place (map symbol (drop l.place l.symbols)) ≡ rows_from (cells l.store) 0 (map symbol l.symbols))
