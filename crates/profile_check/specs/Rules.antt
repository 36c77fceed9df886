-- The rules of the profile, each a test of a statement after the statements of a front; the rules
-- on order, labels, ranges and blocks are those of `structure`.
use Rattle.std.specs.Prelude.{◌≡◌, ℕ, ◌+◌, Bool, true, false, not, ◌&&◌, ◌||◌, ◌==◌}
use Rattle.std.specs.Prelude.{nat_lt, nat_le, int_lt, if◌then◌else◌, List, [], ◌∷◌}
use Rattle.std.specs.Prelude.{◌++◌, length, Option, Some, None, is_some, is_none}
use Rattle.std.specs.List.{list_any, list_all}
use Rattle.indexmap.specs.IndexSet.{insert_all}
use Rattle.ast.specs.Store.{same_name}
use Rattle.ast.specs.Symbols.{Extent, most_elements}
use Rattle.ast.specs.Tree.{Term, PrintItem, value_item, text_item, Bounds, Declarator}
use Rattle.ast.specs.Tree.{Definition, DoHead, Kind, Statement, integer, dimension, parameters}
use Rattle.ast.specs.Tree.{assign, do_loop, block_if, else_if, logical_if, print, read}
use Rattle.ast.specs.Rule.{number_of}
use Rattle.ast.specs.declared.rule.Rule.{Rule}
use Rattle.ast.specs.declared.rule.Rule.TheVariants.{NotInteger, DeclaredTwice, WrongSubscripts}
use Rattle.ast.specs.declared.rule.Rule.TheVariants.{ActiveVariable, ChangedConstant, CrossedBounds}
use Rattle.ast.specs.declared.rule.Rule.TheVariants.{LargeProgram, NoValue, WrongKind}
use Rattle.structure.specs.Open.{Open, is_active, open_after}
use Rattle.structure.specs.Rules.{checks as order_checks, lowest_broken as lowest_order}
use Rattle.profile_check.specs.Declarations.{Declared, Constants, Arrays, declared_in}
use Rattle.profile_check.specs.Declarations.{constant_named, constant_value}
use Rattle.profile_check.specs.Declarations.{extent_of, arrays_by, total_elements}
use Rattle.profile_check.specs.Declarations.{dimensions_named, with_constant, objects_by}
use Rattle.profile_check.specs.Kinds.{integral, logical, is_of, are_integral}
use Rattle.profile_check.specs.TakenBefore.{taken_before}
use Rattle.profile_check.specs.Uses.{Use, uses, typed_by, bounded_by, dimensioned_by}
use Rattle.profile_check.specs.Uses.{defined_by, declarator_names, definition_names}
use Rattle.profile_check.specs.Uses.{program_named_by, is_intrinsic, is_among, is_call}
use Rattle.profile_check.specs.Uses.{has_its_arguments, names_used, names_mentioned}

-- The context of a statement: the names that INTEGER statements of the whole program give a type,
-- how many statements stand before it, the ranges and blocks that are open, what is declared, and
-- how many elements the arrays have together that are declared.
pub record Context : Type 0 where
  pub typed : List (List ℕ)
  pub statements : ℕ
  pub opened : List Open
  pub declared : Declared
  pub elements : ℕ

-- the context of the statement that comes behind a front
abbrev pub context_after : List (List ℕ) → List Statement → Context
context_after typed front = record {
  typed = typed;
  statements = length front;
  opened = open_after front;
  declared = declared_in front;
  elements = total_elements (declared_in front).arrays;
}

-- ---- `NotInteger`: a name that isn't integer, by its first letter or by an INTEGER statement
-- anywhere

-- the first letter of a name is one of I to N
abbrev pub begins_i_to_n : List ℕ → Bool
begins_i_to_n [] = false
begins_i_to_n (c ∷ cs) = nat_le 73 c && nat_le c 78

-- a name is integer by its first letter, or is among those that are given a type
abbrev pub is_integer : List (List ℕ) → List ℕ → Bool
is_integer typed name = begins_i_to_n name || is_among typed name

-- one of these names isn't integer
abbrev pub are_real : List (List ℕ) → List (List ℕ) → Bool
are_real typed names = list_any (λ x. not (is_integer typed x)) names

-- `NotInteger`: a name isn't integer that the statement declares by DIMENSION or PARAMETER, or
-- uses.
abbrev pub names_real : List (List ℕ) → Kind → Bool
names_real typed k =
    are_real typed (declarator_names (dimensioned_by k))
    || (are_real typed (definition_names (defined_by k)) || are_real typed (names_used k))

-- ---- `DeclaredTwice`: declared twice, or a name of something else

-- something is there, and passes a test
abbrev pub is_some_and : {X : Type 0} → (X → Bool) → Option X → Bool
is_some_and test None = false
is_some_and test (Some x) = test x

-- a name of an intrinsic function or of the program
abbrev pub is_other : Option (List ℕ) → List ℕ → Bool
is_other program name = is_intrinsic name || is_some_and (same_name name) program

-- `DeclaredTwice`: a name is given a type a second time; or bounds or a constant where it has
-- either; or the name of an intrinsic function or of the program is declared, defined or used
-- otherwise.
abbrev pub declares_again : Option (List ℕ) → List (List ℕ) → List (List ℕ) → Kind → Bool
declares_again program typed objects k =
    taken_before typed (declarator_names (typed_by k))
    || (taken_before objects (objects_by k)
    || (is_some_and (is_other program) (program_named_by k)
    || list_any (is_other program) (names_mentioned k)))

-- ---- `WrongSubscripts`: subscripts and arguments in another number

-- a call with another number of arguments than its function takes, or another use of a name with
-- another number of subscripts than the name has dimensions
abbrev pub is_miscounted : Arrays → Use → Bool
is_miscounted arrays u =
    if is_call u then not (has_its_arguments u)
    else not (u.count == length (dimensions_named arrays u.name))

-- `WrongSubscripts`: one of the uses in the statement is so. A scalar has no subscripts, an array
-- always.
abbrev pub miscounts : Context → Kind → Bool
miscounts c k = list_any (is_miscounted c.declared.arrays) (uses k)

-- ---- `ActiveVariable`: an active DO variable is assigned, read or used by an inner DO;
-- `ChangedConstant`: a constant is

-- `ActiveVariable`: the statement gives a value to the DO variable of a range that is open.
abbrev pub changes_active : Context → Kind → Bool
changes_active c k = list_any (λ u. u.is_given && is_active c.opened u.name) (uses k)

-- a name of a constant
abbrev pub is_constant : Constants → List ℕ → Bool
is_constant cs name = is_some (constant_named cs name)

-- `ChangedConstant`: the statement gives a value to a constant.
abbrev pub changes_constant : Context → Kind → Bool
changes_constant c k =
    list_any (λ u. u.is_given && is_constant c.declared.constants u.name) (uses k)

-- ---- `CrossedBounds`: bounds that are crossed, or more than seven dimensions

-- an array has at most so many dimensions
abbrev pub most_dimensions : ℕ
most_dimensions = 7

-- the upper bound is below the lower one, where both have a value
abbrev pub is_crossed : Option Extent → Bool
is_crossed (Some d) = int_lt d.upper d.lower
is_crossed None = false

-- an array with more than seven dimensions, or with bounds that are crossed
abbrev pub is_ill_bounded : Constants → Declarator → Bool
is_ill_bounded cs d =
    nat_lt most_dimensions (length d.bounds) || list_any (λ b. is_crossed (extent_of cs b)) d.bounds

-- `CrossedBounds`: the statement declares such an array.
abbrev pub crosses_bounds : Context → Kind → Bool
crosses_bounds c k = list_any (is_ill_bounded c.declared.constants) (bounded_by k)

-- ---- `LargeProgram`: too large

-- a program has at most so many statements
abbrev pub most_statements : ℕ
most_statements = 4096

-- at most so many ranges and blocks are open at once
abbrev pub most_nested : ℕ
most_nested = 16

-- a program has at most so many names
abbrev pub most_names : ℕ
most_names = 512

-- a DO or a block IF, which opens a range or a block
abbrev pub opens : Kind → Bool
opens (do_loop h) = true
opens (block_if e) = true
opens _ = false

-- by how many statements stand before, what is open, and the names and elements with this statement
abbrev pub is_larger : ℕ → List Open → Kind → List (List ℕ) → ℕ → Bool
is_larger statements opened k names elements =
    nat_le most_statements statements
    || ((opens k && nat_le most_nested (length opened))
    || (nat_lt most_names (length names) || nat_lt most_elements elements))

-- `LargeProgram`: with this statement there are more than 4,096 statements, more than 16 ranges and
-- blocks open at once, more than 512 names, or more than 1,048,576 elements of arrays.
abbrev pub is_too_large : Context → Statement → Bool
is_too_large c s =
    is_larger c.statements c.opened s.kind
    (insert_all same_name c.declared.names (names_mentioned s.kind))
    (c.elements + total_elements (arrays_by c.declared.constants (bounded_by s.kind)))

-- ---- `NoValue`: a constant expression without a value; a logical one, as such, is `WrongKind`

-- one of the bounds of a dimension has no value
abbrev pub lacks_either : Constants → Bounds → Bool
lacks_either cs b =
    is_some_and (λ e. is_none (constant_value cs e)) b.lower || is_none (constant_value cs b.upper)

-- one of the bounds of a declarator has none
abbrev pub lacks_bound : Constants → Declarator → Bool
lacks_bound cs d = list_any (lacks_either cs) d.bounds

-- one of the constants has no value, each by those before it
abbrev pub lacks_constant : Constants → List Definition → Bool
lacks_constant cs [] = false
lacks_constant cs (d ∷ ds) =
    is_none (constant_value cs d.value)
    || lacks_constant (with_constant cs d.name (constant_value cs d.value)) ds

-- `NoValue`: a bound or a constant of the statement has no value, since a variable, an element or
-- an intrinsic function stands in its expression, or since the value faults.
abbrev pub lacks_value : Constants → Kind → Bool
lacks_value cs k = list_any (lacks_bound cs) (bounded_by k) || lacks_constant cs (defined_by k)

-- ---- `WrongKind`: logical against integer

-- an expression that is integer, or none
abbrev pub optional_is_integral : Option Term → Bool
optional_is_integral None = true
optional_is_integral (Some e) = is_of integral e

-- an item of a PRINT is an integer expression or a text
abbrev pub item_is_integral : PrintItem → Bool
item_is_integral (value_item e) = is_of integral e
item_is_integral (text_item t) = true

-- the bounds of a dimension are integer
abbrev pub bounds_are_integral : Bounds → Bool
bounds_are_integral b = optional_is_integral b.lower && is_of integral b.upper

-- the parameters of a DO are integer
abbrev pub head_is_integral : DoHead → Bool
head_is_integral h =
    is_of integral h.first && (is_of integral h.last && optional_is_integral h.step)

-- `WrongKind` is the rule of a statement that isn't this: its conditions are logical; bounds,
-- values of constants, values that are assigned, subscripts, parameters of a DO and items are
-- integer.
abbrev pub is_well_kinded : Kind → Bool
is_well_kinded (integer ds) = list_all (λ d. list_all bounds_are_integral d.bounds) ds
is_well_kinded (dimension ds) = list_all (λ d. list_all bounds_are_integral d.bounds) ds
is_well_kinded (parameters ds) = list_all (λ d. is_of integral d.value) ds
is_well_kinded (assign a e) = is_of integral e && are_integral a.subscripts
is_well_kinded (do_loop h) = head_is_integral h
is_well_kinded (block_if c) = is_of logical c
is_well_kinded (else_if c) = is_of logical c
is_well_kinded (logical_if c k) = is_of logical c && is_well_kinded k
is_well_kinded (print items) = list_all item_is_integral items
is_well_kinded (read elements) = list_all (λ a. are_integral a.subscripts) elements
is_well_kinded _ = true

-- the check of a rule
pub record Check : Type 0 where
  pub rule : Rule
  pub is_broken : Context → Statement → Bool

-- the checks from `DeclaredTwice` on, in the order of their rules' numbers
abbrev pub checks_on_values : List Check
checks_on_values = record {
  rule = DeclaredTwice;
  is_broken = λ c s. declares_again c.declared.program c.declared.typed c.declared.objects s.kind;
}
    ∷ record { rule = WrongSubscripts; is_broken = λ c s. miscounts c s.kind }
    ∷ record { rule = ActiveVariable; is_broken = λ c s. changes_active c s.kind }
    ∷ record { rule = ChangedConstant; is_broken = λ c s. changes_constant c s.kind }
    ∷ record { rule = CrossedBounds; is_broken = λ c s. crosses_bounds c s.kind }
    ∷ record { rule = LargeProgram; is_broken = is_too_large }
    ∷ record { rule = NoValue; is_broken = λ c s. lacks_value c.declared.constants s.kind }
    ∷ record { rule = WrongKind; is_broken = λ c s. not (is_well_kinded s.kind) }
    ∷ []

-- all checks of this file, in the order of their rules' numbers
abbrev pub checks : List Check
checks =
    record { rule = NotInteger; is_broken = λ c s. names_real c.typed s.kind } ∷ checks_on_values

-- the first of these rules that a statement breaks, if it breaks one
abbrev pub lowest_of : List Check → Context → Statement → Option Rule
lowest_of [] c s = None
lowest_of (check ∷ more) c s = if check.is_broken c s then Some check.rule else lowest_of more c s

-- the rule of the lower number of two, where there are any
abbrev pub lower : Option Rule → Option Rule → Option Rule
lower None b = b
lower (Some a) None = Some a
lower (Some a) (Some b) = if nat_le (number_of a) (number_of b) then Some a else Some b

-- the names that the INTEGER statements of a program give a type; one in a logical IF gives none
abbrev pub typed_at_top : Kind → List (List ℕ)
typed_at_top (integer ds) = declarator_names ds
typed_at_top _ = []

-- the same of all statements
abbrev pub typed_in_whole : List Statement → List (List ℕ)
typed_in_whole [] = []
typed_in_whole (s ∷ ss) = typed_at_top s.kind ++ typed_in_whole ss

-- the lowest rule that a statement breaks
abbrev pub rule_broken : List (List ℕ) → List Statement → Statement → Option Rule
rule_broken typed front s =
    lower (lowest_order order_checks front s) (lowest_of checks (context_after typed front) s)

-- no statement breaks a rule
pub record KeepRules (typed : List (List ℕ)) (ss : List Statement) : Type 0 where
  pub each : (front : List Statement) (s : Statement) (back : List Statement)
      → ss ≡ front ++ s ∷ back → rule_broken typed front s ≡ None

-- the statements keep the rules of the profile
abbrev pub InProfile : List Statement → Type 0
InProfile ss = KeepRules (typed_in_whole ss) ss

-- the first statement that breaks a rule stands at the line, and the lowest rule that it breaks is
-- the one
pub record BreaksFirst (ss : List Statement) (rule : Rule) (line : ℕ) : Type 0 where
  pub front : List Statement
  pub statement : Statement
  pub back : List Statement
  pub cut : ss ≡ front ++ statement ∷ back
  pub kept : KeepRules (typed_in_whole ss) front
  pub broken : rule_broken (typed_in_whole ss) front statement ≡ Some rule
  pub place : line ≡ statement.line
