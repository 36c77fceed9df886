-- The loops that a table tells to be opened.
use Rattle.std.specs.Prelude.{◌==◌, ◌+◌, if◌then◌else◌, ℕ, List, [], ◌∷◌, Option, Some, None}
use Rattle.std.specs.BTreeMap.{get}
use Rattle.std.specs.Ordering.{nat_cmp}
use Rattle.codegen.specs.declared.opened.Opened.{Opened}

-- the number, from n on, of the first of these that is id
abbrev pub number_of : ℕ → List ℕ → ℕ → Option ℕ
number_of n [] id = None
number_of n (x ∷ xs) id = if x == id then Some n else number_of (n + 1) xs id

-- the number of the loop that a DO opens, if it opens one, told by its variable's reference
abbrev pub opens_in : Opened → ℕ → Option ℕ
opens_in o id = get nat_cmp o.numbers id
