-- The rows that those of the code stand for.
use Rattle.std.specs.Prelude.{ℕ, ℤ, ◌+◌, List, [], ◌∷◌}
use Rattle.ast.specs.Store.{values_in}
use Rattle.ast.specs.Symbols.{Symbol}
use Rattle.ast.specs.View.{symbol}
use Rattle.command_output.specs.Shown as shown
use Rattle.command_output.specs.declared.row.Row.{Row}

abbrev pub row_view : Row → shown.Row
row_view r = record { symbol = symbol r.symbol.now; values = r.values.now }

-- the rows of symbols whose values stand from a place on in the cells of a store
abbrev pub rows_from : List (List ℕ × List ℤ) → ℕ → List Symbol → List shown.Row
rows_from cells place [] = []
rows_from cells place (s ∷ symbols) =
    record { symbol = s; values = values_in cells place } ∷ rows_from cells (place + 1) symbols
