-- Stores: the value of each element of each name, elements numbered from 0 in storage order.
use Rattle.std.specs.Prelude.{ℕ, ℤ, zero, suc, ◌+◌, pos, Bool, nat_eq, ◌==◌, ◌&&◌, List, [], ◌∷◌}
use Rattle.std.specs.Prelude.{if◌then◌else◌, Option, None, unwrap_or, slice_get, get_or, take, drop}
use Rattle.std.specs.Cmp.Lexicographic.{pointwise}

-- whether two names are the same
abbrev pub same_name : List ℕ → List ℕ → Bool
same_name = pointwise nat_eq

-- a store: the value of each name at each place
abbrev pub StoreOf : Type 0
StoreOf = List ℕ → ℕ → ℤ

-- all storage starts at 0 (the profile)
abbrev pub zeros : StoreOf
zeros name place = pos 0

-- the store with one element changed
unfoldable pub put : StoreOf → List ℕ → ℕ → ℤ → StoreOf
put store name place value = λ x i. if same_name name x && (place == i) then value else store x i

-- the values at the places from n on, so many of them
abbrev pub values_from : (ℕ → ℤ) → ℕ → ℕ → List ℤ
values_from value n zero = []
values_from value n (suc count) = value n ∷ values_from value (n + 1) count

-- the value that a list of names, each with its values, has for a name at a place
abbrev pub value_at : List (List ℕ × List ℤ) → List ℕ → ℕ → Option ℤ
value_at [] name place = None
value_at (c ∷ cs) name place =
    if same_name c.0 name then slice_get c.1 place else value_at cs name place

-- the store that such a list stands for
unfoldable pub store_of : List (List ℕ × List ℤ) → StoreOf
store_of cs = λ name place. unwrap_or (value_at cs name place) (pos 0)

-- the values of a list of cells at a place of that list
abbrev pub values_in : List (List ℕ × List ℤ) → ℕ → List ℤ
values_in cs i = (get_or cs i ([], [])).1

-- how many elements names have together, by how many each has
abbrev pub total_of : List (List ℕ × ℕ) → ℕ
total_of [] = 0
total_of (x ∷ xs) = x.1 + total_of xs

-- the values of names whose elements follow each other, the first name's first
abbrev pub dealt : List (List ℕ × ℕ) → List ℤ → List (List ℕ × List ℤ)
dealt [] vs = []
dealt (x ∷ xs) vs = (x.0, take x.1 vs) ∷ dealt xs (drop x.1 vs)
