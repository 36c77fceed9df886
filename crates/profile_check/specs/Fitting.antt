-- The constants among a program's symbols are 64-bit integers.
use Rattle.std.specs.Prelude.{Bool, true}
use Rattle.ast.specs.Exact.{fits}
use Rattle.ast.specs.Symbols.{Symbol, Sort, variable, fixed}

abbrev pub sort_fits : Sort → Bool
sort_fits (variable ds) = true
sort_fits (fixed n) = fits n

abbrev pub symbol_fits : Symbol → Bool
symbol_fits s = sort_fits s.sort
