-- Names taken into a table one after another.
use Rattle.std.specs.Prelude.{ℕ, Bool, false, ◌||◌, List, [], ◌∷◌}
use Rattle.std.specs.List.{list_any}
use Rattle.indexmap.specs.IndexSet.{insert_key}
use Rattle.ast.specs.Store.{same_name}

-- whether one of the names is in the table when it is taken in
abbrev pub taken_before : List (List ℕ) → List (List ℕ) → Bool
taken_before table [] = false
taken_before table (name ∷ names) =
    list_any (same_name name) table || taken_before (insert_key same_name table name) names
