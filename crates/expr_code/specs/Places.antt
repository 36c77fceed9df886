-- Where the code of an expression finds its variables.
use Rattle.std.specs.Prelude.{ℕ, ℤ, ◌+◌, Bool, false, if◌then◌else◌, List}
use Rattle.std.specs.Prelude.{[], ◌∷◌, get_or, Option, Some, None, slice_get}
use Rattle.ast.specs.Store.{StoreOf, same_name}
use Rattle.ast.specs.Symbols.{Extent, Symbol, dimensions_in, dimensions_of}
use Rattle.machine.specs.Frame.{Frame}
use Rattle.machine.specs.Local.{defined}

-- The symbols of the program, the names of the private scalars, in the order in which frames hold
-- them, the variable of the open loop, if any, and the line of the statement.
pub record Places : Type 0 where
  pub symbols : List Symbol
  pub privates : List (List ℕ)
  pub loop_name : Option (List ℕ)
  pub line : ℕ

-- what holds a variable's value: the frame, as the open loop's variable or as one of its private
-- scalars, by its number, or a cell of the store
pub data Home : Type 0 where
  loop_index : Home
  private_scalar : ℕ → Home
  in_store : Home

-- the number of a name among names that are numbered from n on
abbrev pub number_in : ℕ → List ℕ → List (List ℕ) → Option ℕ
number_in n name [] = None
number_in n name (x ∷ xs) = if same_name x name then Some n else number_in (n + 1) name xs

abbrev pub is_loop_name : Option (List ℕ) → List ℕ → Bool
is_loop_name None name = false
is_loop_name (Some x) name = same_name x name

abbrev pub private_or_stored : Option ℕ → Home
private_or_stored None = in_store
private_or_stored (Some x) = private_scalar x

-- the home of a name with these dimensions; an array is in the store
abbrev pub home : Places → List Extent → List ℕ → Home
home p (d ∷ ds) name = in_store
home p [] name =
    if is_loop_name p.loop_name name then loop_index
    else private_or_stored (number_in 0 name p.privates)

abbrev pub home_of : Places → List ℕ → Home
home_of p name = home p (dimensions_in p.symbols name) name

-- the value that a frame has for a private scalar, 0 where it wasn't defined
abbrev pub private_value : Frame → ℕ → ℤ
private_value f x = defined (get_or f.privates x None)

-- a value, unless the frame holds the variable
abbrev pub held_or : Home → Frame → ℤ → ℤ
held_or loop_index f v = f.index
held_or (private_scalar x) f v = private_value f x
held_or in_store f v = v

-- the store with the frame's private scalars, and its value of the open loop's variable, in the
-- place of the store's
abbrev pub seen_from : Places → Frame → StoreOf → StoreOf
seen_from p f store = λ name place. held_or (home_of p name) f (store name place)

-- the dimensions of the symbol at a place of the symbols, none where there is no such symbol
abbrev pub dimensions_found : Option Symbol → List Extent
dimensions_found None = []
dimensions_found (Some s) = dimensions_of s.sort

abbrev pub dimensions_at : List Symbol → ℕ → List Extent
dimensions_at symbols c = dimensions_found (slice_get symbols c)
