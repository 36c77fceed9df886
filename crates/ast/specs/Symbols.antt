-- A program's symbols: what each of its names stands for.
use Rattle.std.specs.Prelude.{ℕ, ℤ, ◌+◌, ◌*◌, ◌-ℤ◌, int_lt, unsigned_abs, nat_le, Bool, not}
use Rattle.std.specs.Prelude.{◌&&◌, if◌then◌else◌, List, [], ◌∷◌, Result, Ok, Err, map}
use Rattle.std.specs.List.{list_all}
use Rattle.ast.specs.Results.{◌>>=◌}
use Rattle.ast.specs.Store.{StoreOf, same_name, values_from}
use Rattle.ast.specs.declared.fault.Fault.{Fault}
use Rattle.ast.specs.declared.fault.Fault.TheVariants.{Index}

-- a dimension of an array, with the values of its bounds
pub record Extent : Type 0 where
  pub lower : ℤ
  pub upper : ℤ

-- what a name stands for: a variable, an array if it has dimensions; or a constant
pub data Sort : Type 0 where
  variable : List Extent → Sort
  fixed : ℤ → Sort

-- a name, and what it stands for
pub record Symbol : Type 0 where
  pub name : List ℕ
  pub sort : Sort

abbrev pub names_of : List Symbol → List (List ℕ)
names_of symbols = map (λ s. s.name) symbols

-- how many values a subscript may have
abbrev pub width : Extent → ℕ
width d = unsigned_abs (d.upper -ℤ d.lower) + 1

-- how many elements dimensions make: one where there are none
abbrev pub elements : List Extent → ℕ
elements [] = 1
elements (d ∷ ds) = width d * elements ds

-- how many values a name has a place for
abbrev pub size : Sort → ℕ
size (variable ds) = elements ds
size (fixed n) = 0

-- each name, and how many values it has a place for
abbrev pub shapes_of : List Symbol → List (List ℕ × ℕ)
shapes_of symbols = map (λ s. (s.name, size s.sort)) symbols

-- whether a subscript is within the bounds of its dimension
abbrev pub is_within : Extent → ℤ → Bool
is_within d x = not (int_lt x d.lower) && not (int_lt d.upper x)

-- The place of an element in storage order, the first subscript varying fastest (ANSI X3.9-1978,
-- 5.4.3), or INDEX where a subscript leaves its bounds. The number of subscripts is that of the
-- dimensions in all programs of the profile.
abbrev pub place_of : List Extent → List ℤ → Result ℕ Fault
place_of [] xs = Ok 0
place_of (d ∷ ds) [] = Err Index
place_of (d ∷ ds) (x ∷ xs) =
    if is_within d x then (place_of ds xs >>= (λ p. Ok (unsigned_abs (x -ℤ d.lower) + width d * p)))
    else Err Index

-- the dimensions of a name: none of a scalar
abbrev pub dimensions_of : Sort → List Extent
dimensions_of (variable ds) = ds
dimensions_of (fixed n) = []

-- the dimensions of a name among symbols; none where it isn't there
abbrev pub dimensions_in : List Symbol → List ℕ → List Extent
dimensions_in [] name = []
dimensions_in (s ∷ symbols) name =
    if same_name s.name name then dimensions_of s.sort else dimensions_in symbols name

-- the elements of all arrays together are at most so many, by the profile
abbrev pub most_elements : ℕ
most_elements = 1048576

-- no bounds are crossed, and the elements are few
abbrev pub is_sized_sort : Sort → Bool
is_sized_sort s =
    list_all (λ d. not (int_lt d.upper d.lower)) (dimensions_of s) && nat_le (size s) most_elements

-- no bounds of a symbol are crossed, and it has at most 1,048,576 elements
abbrev pub is_sized : Symbol → Bool
is_sized s = is_sized_sort s.sort

-- a name with the values that it has in a store, in storage order
abbrev pub cell_of : StoreOf → Symbol → List ℕ × List ℤ
cell_of store s = (s.name, values_from (store s.name) 0 (size s.sort))

-- each name with the values that it has in a store
abbrev pub cells_of : List Symbol → StoreOf → List (List ℕ × List ℤ)
cells_of symbols store = map (λ s. cell_of store s) symbols
