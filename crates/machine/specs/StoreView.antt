-- What cells mean: the store, by name and place.
use Rattle.std.specs.Prelude.{ℕ, ℤ, pos, List, get_or, Option, Some, None}
use Rattle.ast.specs.Store.{StoreOf}
use Rattle.machine.specs.Laid.{number_at}
use Rattle.machine.specs.declared.code.Variable.{Variable}

-- the value of the cell of this number; 0 where there is none
abbrev pub value_in : List ℤ → Option ℕ → ℤ
value_in cells None = pos 0
value_in cells (Some n) = get_or cells n (pos 0)

unfoldable pub store_of : List Variable → List ℤ → StoreOf
store_of xs cells = λ name place. value_in cells (number_at xs name place)
