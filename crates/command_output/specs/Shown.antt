-- What the program writes. Each line ends in LF, numbers are in shortest decimal, and the words are
-- the profile's.
use Rattle.std.specs.Prelude.{◌≡◌, ℕ, ℤ, pos, ◌+◌, ◌/◌, ◌%◌, ◌+ℤ◌, Bool, true}
use Rattle.std.specs.Prelude.{false, codes, decimal, List, [], ◌∷◌, ◌++◌, map}
use Rattle.std.specs.Cmp.Lexicographic.{slice_cmp}
use Rattle.std.specs.Fmt.{signed_decimal}
use Rattle.std.specs.List.Sorted.{IsPermutation, IsSortedByKey}
use Rattle.std.specs.Ordering.{nat_cmp}
use Rattle.std.specs.declared.cmp.Ordering.{Ordering}
use Rattle.ast.specs.Name.{trimmed}
use Rattle.ast.specs.Program.{ProgramTree, loops_in}
use Rattle.ast.specs.Rule.{number_of as rule_number}
use Rattle.ast.specs.Store.{StoreOf, values_from}
use Rattle.ast.specs.Symbols.{Extent, Symbol, width, dimensions_of, size}
use Rattle.ast.specs.declared.fault.End.{End}
use Rattle.ast.specs.declared.fault.End.TheVariants.{Done, Stopped, Fault as Faulted}
use Rattle.ast.specs.declared.fault.Fault.{Fault}
use Rattle.ast.specs.declared.rule.Rule.{Rule}
use Rattle.explanations.specs.Faults.{fault_name, fault_number}
use Rattle.schedules.specs.Flaw.{number_of as flaw_number}
use Rattle.schedules.specs.declared.flaw.Flaw.{Flaw}

-- the number of a line, and the LF
abbrev pub at_line : ℕ → List ℕ
at_line line = codes " LINE " ++ decimal line ++ 10 ∷ []

-- ---- sources

-- the line of a source that is accepted with so many statements and loops
abbrev pub accepted_with : ℕ → ℕ → List ℕ
accepted_with statements loops =
    codes "ACCEPTED STATEMENTS " ++ decimal statements ++ codes " LOOPS "
    ++ decimal loops ++ 10 ∷ []

-- the line of a program's source
abbrev pub accepted : ProgramTree → List ℕ
accepted program = accepted_with program.count (loops_in program.block)

-- the line of a source that is refused
abbrev pub refused : Rule → ℕ → List ℕ
refused rule line = codes "REFUSED " ++ decimal (rule_number rule) ++ at_line line

-- the line of a schedule that is refused
abbrev pub no_schedule : Flaw → ℕ → List ℕ
no_schedule flaw line = codes "SCHEDULE " ++ decimal (flaw_number flaw) ++ at_line line

-- ---- ends of a run

-- the line of a fault
abbrev pub faulted : Fault → ℕ → List ℕ
faulted fault line =
    codes "FAULT " ++ decimal (fault_number fault) ++ 32 ∷ [] ++ fault_name fault ++ at_line line

-- the line of a STOP
abbrev pub stopped : ℕ → List ℕ
stopped line = codes "STOPPED" ++ at_line line

-- ---- stores

-- the subscripts of the element at a place in storage order, the first varying fastest
abbrev pub subscripts_at : List Extent → ℕ → List ℤ
subscripts_at [] place = []
subscripts_at (d ∷ ds) place =
    (d.lower +ℤ pos (place % width d)) ∷ subscripts_at ds (place / width d)

-- subscripts in parentheses, with commas between them; a scalar has none
abbrev pub further : List ℤ → List ℕ
further [] = 41 ∷ []
further (x ∷ xs) = 44 ∷ signed_decimal x ++ further xs

abbrev pub in_parentheses : List ℤ → List ℕ
in_parentheses [] = []
in_parentheses (x ∷ xs) = 40 ∷ signed_decimal x ++ further xs

-- the line of an element: its name, its subscripts, its value
abbrev pub element_line : List ℕ → List ℤ → ℤ → List ℕ
element_line name subscripts value =
    trimmed name ++ in_parentheses subscripts ++ codes " = " ++ signed_decimal value ++ 10 ∷ []

-- the lines of a name's elements from a place on
abbrev pub lines_from : List ℕ → List Extent → ℕ → List ℤ → List ℕ
lines_from name ds place [] = []
lines_from name ds place (x ∷ xs) =
    element_line name (subscripts_at ds place) x ++ lines_from name ds (place + 1) xs

-- a symbol with its values in storage order: one for a scalar, none for a constant
pub record Row : Type 0 where
  pub symbol : Symbol
  pub values : List ℤ

abbrev pub row_of : StoreOf → Symbol → Row
row_of store s = record { symbol = s; values = values_from (store s.name) 0 (size s.sort) }

abbrev pub row_lines : Row → List ℕ
row_lines r = lines_from r.symbol.name (dimensions_of r.symbol.sort) 0 r.values

abbrev pub rows_lines : List Row → List ℕ
rows_lines [] = []
rows_lines (r ∷ rs) = row_lines r ++ rows_lines rs

-- names in byte order
abbrev pub byte_order : List ℕ → List ℕ → Ordering
byte_order = slice_cmp nat_cmp

-- the lines of the rows, these in byte order of their names
pub record StoreShown (rows : List Row) (text : List ℕ) : Type 0 where
  pub sorted : List Row
  pub same : IsPermutation rows sorted
  pub order : IsSortedByKey (λ r. r.symbol.name) byte_order sorted
  pub lines : text ≡ rows_lines sorted

-- what follows the records: the line of a fault or of a STOP; without either, where the store is
-- wanted, its lines
abbrev pub EndShown : Bool → List Row → End → List ℕ → Type 0
EndShown store rows (Faulted fault line) text = text ≡ faulted fault line
EndShown store rows (Stopped line) text = text ≡ stopped line
EndShown false rows Done text = text ≡ []
EndShown true rows Done text = StoreShown rows text

-- what is written of an answer, by its output, its end and its store, and the program's symbols:
-- the records and what follows them
pub record Shown (wanted : Bool) (symbols : List Symbol) (output : List ℕ) (end : End)
    (store : StoreOf) (text : List ℕ) : Type 0 where
  pub last : List ℕ
  pub ends : EndShown wanted (map (row_of store) symbols) end last
  pub whole : text ≡ output ++ last

-- a text grew by one of this kind
pub record Extends (kind : List ℕ → Type 0) (old new : List ℕ) : Type 0 where
  pub last : List ℕ
  pub fits : kind last
  pub grown : new ≡ old ++ last
