-- What is declared after some statements of a text.
use Rattle.std.specs.Prelude.{ℕ, ℤ, ◌+◌, pos, if◌then◌else◌, List, [], ◌∷◌, ◌++◌, map}
use Rattle.std.specs.Prelude.{flat_map, Option, Some, None, option_map, Result, Ok, Err}
use Rattle.std.specs.Result.{result_ok}
use Rattle.indexmap.specs.IndexMap.{insert_entry}
use Rattle.indexmap.specs.IndexSet.{insert_all}
use Rattle.ast.specs.Meaning.{LookUp, value}
use Rattle.ast.specs.Store.{same_name}
use Rattle.ast.specs.Symbols.{Extent, Sort, variable, fixed, Symbol, elements}
use Rattle.ast.specs.Tree.{Term, Bounds, Declarator, Definition, Kind, Statement}
use Rattle.ast.specs.declared.fault.Fault.{Fault}
use Rattle.ast.specs.declared.fault.Fault.TheVariants.{Index}
use Rattle.profile_check.specs.Erasure.{erased}
use Rattle.profile_check.specs.Kinds.{integral, is_of}
use Rattle.profile_check.specs.Uses.{typed_by, bounded_by, defined_by, declarator_names}
use Rattle.profile_check.specs.Uses.{definition_names, names_mentioned, program_named_by}

-- the constants that PARAMETER statements have defined
abbrev pub Constants : Type 0
Constants = List (List ℕ × ℤ)

-- the value of the constant of a name, if there is one
abbrev pub constant_named : Constants → List ℕ → Option ℤ
constant_named [] name = None
constant_named (c ∷ cs) name = if same_name c.0 name then Some c.1 else constant_named cs name

-- In a constant expression a name stands for a constant; a variable, an element and an intrinsic
-- function have no value there.
abbrev pub or_fault : Option ℤ → Result ℤ Fault
or_fault (Some n) = Ok n
or_fault None = Err Index

abbrev pub constants_look : Constants → LookUp
constants_look cs r [] = or_fault (constant_named cs r.name)
constants_look cs r (x ∷ xs) = Err Index

-- the value of a constant expression as its text has it, if it has one
abbrev pub constant_value : Constants → Term → Option ℤ
constant_value cs e = result_ok (value (constants_look cs) (erased e))

-- the value of a bound, if it has one: a logical bound has none
abbrev pub bound_value : Constants → Term → Option ℤ
bound_value cs e = if is_of integral e then constant_value cs e else None

-- an absent lower bound is 1
abbrev pub lower_value : Constants → Option Term → Option ℤ
lower_value cs None = Some (pos 1)
lower_value cs (Some e) = bound_value cs e

abbrev pub extent_by : Option ℤ → Option ℤ → Option Extent
extent_by (Some l) (Some u) = Some (record { lower = l; upper = u })
extent_by (Some l) None = None
extent_by None u = None

-- the dimension that bounds make, where both have values
abbrev pub extent_of : Constants → Bounds → Option Extent
extent_of cs b = extent_by (lower_value cs b.lower) (bound_value cs b.upper)

-- all values, or none where one is absent
abbrev pub all_or_none : {X : Type 0} → List (Option X) → Option (List X)
all_or_none [] = Some []
all_or_none (Some x ∷ others) = option_map (λ xs. x ∷ xs) (all_or_none others)
all_or_none (None ∷ others) = None

-- the dimensions of an array, where all bounds have values
abbrev pub extents_of : Constants → List Bounds → Option (List Extent)
extents_of cs bs = all_or_none (map (extent_of cs) bs)

-- the names of arrays, with their dimensions
abbrev pub Arrays : Type 0
Arrays = List (List ℕ × List Extent)

abbrev pub or_no_extents : Option (List Extent) → List Extent
or_no_extents (Some ds) = ds
or_no_extents None = []

-- the arrays with the bounds that they are given
abbrev pub arrays_by : Constants → List Declarator → Arrays
arrays_by cs ds = map (λ d. (d.name, or_no_extents (extents_of cs d.bounds))) ds

-- the dimensions of an array by its name; none of what is no array
abbrev pub dimensions_named : Arrays → List ℕ → List Extent
dimensions_named [] name = []
dimensions_named (a ∷ more) name = if same_name a.0 name then a.1 else dimensions_named more name

-- with more arrays, each name once
abbrev pub with_arrays : Arrays → Arrays → Arrays
with_arrays arrays [] = arrays
with_arrays arrays (a ∷ more) = with_arrays (insert_entry same_name arrays a.0 a.1) more

-- each definition of a PARAMETER statement stands after those before it
abbrev pub with_constant : Constants → List ℕ → Option ℤ → Constants
with_constant cs name (Some n) = insert_entry same_name cs name n
with_constant cs name None = cs

-- with all definitions of a PARAMETER statement
abbrev pub with_constants : Constants → List Definition → Constants
with_constants cs [] = cs
with_constants cs (d ∷ ds) = with_constants (with_constant cs d.name (constant_value cs d.value)) ds

-- how many elements an array has; none where its bounds have no values, and so it no dimensions
abbrev pub array_elements : List Extent → ℕ
array_elements [] = 0
array_elements (d ∷ ds) = elements (d ∷ ds)

-- how many elements arrays have together
abbrev pub total_elements : Arrays → ℕ
total_elements [] = 0
total_elements (a ∷ more) = array_elements a.1 + total_elements more

-- the arrays that statements give bounds, by the constants before each statement
abbrev pub arrays_from : Constants → List Statement → Arrays
arrays_from cs [] = []
arrays_from cs (s ∷ ss) =
    arrays_by cs (bounded_by s.kind) ++ arrays_from (with_constants cs (defined_by s.kind)) ss

abbrev pub newer : {X : Type 0} → Option X → Option X → Option X
newer (Some x) before = Some x
newer None before = before

-- the program's name, the last that one gives
abbrev pub program_in : List Statement → Option (List ℕ)
program_in [] = None
program_in (s ∷ ss) = newer (program_in ss) (program_named_by s.kind)

-- each name once, in order of first appearance
abbrev pub once_each : List (List ℕ) → List (List ℕ)
once_each names = insert_all same_name [] names

-- what is declared: the program's name; the names with a type; the names of arrays and constants;
-- these with what they stand for; and all names
pub record Declared : Type 0 where
  pub program : Option (List ℕ)
  pub typed : List (List ℕ)
  pub objects : List (List ℕ)
  pub arrays : Arrays
  pub constants : Constants
  pub names : List (List ℕ)

-- the names that a statement makes arrays or constants
abbrev pub objects_by : Kind → List (List ℕ)
objects_by k = declarator_names (bounded_by k) ++ definition_names (defined_by k)

-- what the statements of a front declare
abbrev pub declared_in : List Statement → Declared
declared_in front = record {
  program = program_in front;
  typed = once_each (flat_map (λ s. declarator_names (typed_by s.kind)) front);
  objects = once_each (flat_map (λ s. objects_by s.kind) front);
  arrays = with_arrays [] (arrays_from [] front);
  constants = with_constants [] (flat_map (λ s. defined_by s.kind) front);
  names = once_each (flat_map (λ s. names_mentioned s.kind) front);
}

-- the symbols: what each name stands for
abbrev pub constant_or : Sort → Option ℤ → Sort
constant_or other (Some n) = fixed n
constant_or other None = other

-- a constant, an array or a scalar, by what is declared of the name
abbrev pub sort_of : Declared → List ℕ → Sort
sort_of d name =
    constant_or (variable (dimensions_named d.arrays name)) (constant_named d.constants name)

abbrev pub symbol_of : Declared → List ℕ → Symbol
symbol_of d name = record { name = name; sort = sort_of d name }

-- a symbol for each name, in order of first appearance
abbrev pub symbols_of : Declared → List Symbol
symbols_of d = map (symbol_of d) d.names
