-- Accounts of PRINT, item by item.
use Rattle.std.specs.Prelude.{◌++◌, ℕ, Bool, true, false, List, [], ◌∷◌, Result, Ok}
use Rattle.ast.specs.Meaning.{LookUp, value}
use Rattle.ast.specs.Record.{number, shown, text}
use Rattle.ast.specs.Results.{◌>>=◌}
use Rattle.ast.specs.Tree.{PrintItem, value_item, text_item}
use Rattle.ast.specs.declared.fault.Fault.{Fault}

-- an output with what an item prints
abbrev pub item_onto : List ℕ → Bool → PrintItem → LookUp → Result (List ℕ) Fault
item_onto output is_first (value_item e) look =
    value look e >>= (λ n. Ok (output ++ shown is_first (number n)))
item_onto output is_first (text_item t) look = Ok (output ++ shown is_first (text t))

-- an output with what items print
abbrev pub items_onto : List ℕ → Bool → List PrintItem → LookUp → Result (List ℕ) Fault
items_onto output is_first [] look = Ok output
items_onto output is_first (item ∷ items) look =
    item_onto output is_first item look >>= (λ longer. items_onto longer false items look)

-- an output with the record of a PRINT
abbrev pub record_onto : List ℕ → List PrintItem → LookUp → Result (List ℕ) Fault
record_onto output items look =
    items_onto (output ++ 32 ∷ []) true items look >>= (λ longer. Ok (longer ++ 10 ∷ []))
