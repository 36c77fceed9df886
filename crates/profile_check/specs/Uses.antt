-- The names in the statements of a text, with what follows them in parentheses.
use Rattle.std.specs.Prelude.{ℕ, Bool, true, false, not, ◌&&◌, nat_lt, nat_le, ◌==◌, if◌then◌else◌}
use Rattle.std.specs.Prelude.{List, [], ◌∷◌, ◌++◌, length, map, codes, Option, Some, None}
use Rattle.std.specs.List.{list_any, filter}
use Rattle.ast.specs.Store.{same_name}
pub use Rattle.ast.specs.Tree.{count_of}
use Rattle.ast.specs.Tree.{Term, Terms, element, call, parentheses, unary, binary, no_terms}
use Rattle.ast.specs.Tree.{then_term, Access, PrintItem, value_item, text_item, Bounds, Declarator}
use Rattle.ast.specs.Tree.{Definition, DoHead, Kind, program, integer, dimension, parameters}
use Rattle.ast.specs.Tree.{assign, do_loop, block_if, else_if, logical_if, print, read}

-- a name that stands in a statement: with how many subscripts or arguments, and whether it is given
-- a value there
pub record Use : Type 0 where
  pub name : List ℕ
  pub count : ℕ
  pub is_given : Bool

-- the names of an expression, in order of evaluation
abbrev mutual
  pub term_uses : Term → List Use
  term_uses (element r es) =
      terms_uses es ++ record { name = r.name; count = count_of es; is_given = false } ∷ []
  term_uses (call f es) = terms_uses es
  term_uses (parentheses e) = term_uses e
  term_uses (unary p e) = term_uses e
  term_uses (binary o a b) = term_uses a ++ term_uses b
  term_uses _ = []

  pub terms_uses : Terms → List Use
  terms_uses no_terms = []
  terms_uses (then_term e es) = term_uses e ++ terms_uses es

-- the names of an element, its subscripts first
abbrev pub access_uses : Bool → Access → List Use
access_uses is_given a =
    terms_uses a.subscripts
    ++ record { name = a.ref.name; count = count_of a.subscripts; is_given = is_given } ∷ []

-- an element that is given a value
abbrev pub given_uses : Access → List Use
given_uses a = access_uses true a

-- the names of an expression, where there is one
abbrev pub optional_uses : Option Term → List Use
optional_uses None = []
optional_uses (Some e) = term_uses e

-- the names of several parts, one after another
abbrev pub all_uses : {X : Type 0} → (X → List Use) → List X → List Use
all_uses uses [] = []
all_uses uses (x ∷ xs) = uses x ++ all_uses uses xs

-- the names of an item of a PRINT
abbrev pub item_uses : PrintItem → List Use
item_uses (value_item e) = term_uses e
item_uses (text_item t) = []

-- the names of the bounds of a dimension, the lower bound first
abbrev pub bounds_uses : Bounds → List Use
bounds_uses b = optional_uses b.lower ++ term_uses b.upper

-- the names in the bounds of a declarator; its own name isn't used but declared
abbrev pub declarator_uses : Declarator → List Use
declarator_uses d = all_uses bounds_uses d.bounds

-- the names in the expression that gives a constant its value
abbrev pub definition_uses : Definition → List Use
definition_uses d = term_uses d.value

-- the names of a DO: its parameters, and then its variable, which is given a value
abbrev pub head_uses : DoHead → List Use
head_uses h =
    term_uses h.first ++ term_uses h.last ++ optional_uses h.step
    ++ record { name = h.variable.name; count = 0; is_given = true } ∷ []

-- the names that a statement uses, in order of evaluation
abbrev pub uses : Kind → List Use
uses (integer ds) = all_uses declarator_uses ds
uses (dimension ds) = all_uses declarator_uses ds
uses (parameters ds) = all_uses definition_uses ds
uses (assign a e) = term_uses e ++ given_uses a
uses (do_loop h) = head_uses h
uses (block_if c) = term_uses c
uses (else_if c) = term_uses c
uses (logical_if c k) = term_uses c ++ uses k
uses (print items) = all_uses item_uses items
uses (read elements) = all_uses given_uses elements
uses _ = []

-- the declarators of an INTEGER statement
abbrev pub typed_by : Kind → List Declarator
typed_by (integer ds) = ds
typed_by (logical_if c k) = typed_by k
typed_by _ = []

-- a declarator with bounds declares an array
abbrev pub has_bounds : Declarator → Bool
has_bounds d = nat_lt 0 (length d.bounds)

-- those of an INTEGER or a DIMENSION statement
abbrev pub declarators_of : Kind → List Declarator
declarators_of (integer ds) = ds
declarators_of (dimension ds) = ds
declarators_of (logical_if c k) = declarators_of k
declarators_of _ = []

-- those that declare an array
abbrev pub bounded_by : Kind → List Declarator
bounded_by k = filter has_bounds (declarators_of k)

-- those of a DIMENSION statement alone
abbrev pub dimensioned_by : Kind → List Declarator
dimensioned_by (dimension ds) = ds
dimensioned_by (logical_if c k) = dimensioned_by k
dimensioned_by _ = []

-- the definitions of a PARAMETER statement
abbrev pub defined_by : Kind → List Definition
defined_by (parameters ds) = ds
defined_by (logical_if c k) = defined_by k
defined_by _ = []

-- the name that a PROGRAM statement gives
abbrev pub program_named_by : Kind → Option (List ℕ)
program_named_by (program x) = Some x
program_named_by (logical_if c k) = program_named_by k
program_named_by _ = None

-- the names that declarators declare
abbrev pub declarator_names : List Declarator → List (List ℕ)
declarator_names ds = map (λ d. d.name) ds

-- the names that definitions give values
abbrev pub definition_names : List Definition → List (List ℕ)
definition_names ds = map (λ d. d.name) ds

-- ---- intrinsic functions

-- their names, filled with blanks to six letters
abbrev pub intrinsics : List (List ℕ)
intrinsics =
    codes "ABS   " ∷ codes "IABS  " ∷ codes "MAX   " ∷ codes "MAX0  " ∷ codes "MIN   "
    ∷ codes "MIN0  " ∷ codes "MOD   " ∷ []

-- a name is one of these
abbrev pub is_among : List (List ℕ) → List ℕ → Bool
is_among names name = list_any (same_name name) names

-- a name is that of an intrinsic function
abbrev pub is_intrinsic : List ℕ → Bool
is_intrinsic name = is_among intrinsics name

-- the name of an intrinsic function with arguments in an expression calls it
abbrev pub is_call : Use → Bool
is_call u = is_intrinsic u.name && (nat_lt 0 u.count && not u.is_given)

-- any other use of a name
abbrev pub is_name : Use → Bool
is_name u = not (is_call u)

-- ABS and IABS have one argument
abbrev pub takes_one : List ℕ → Bool
takes_one name = is_among (codes "ABS   " ∷ codes "IABS  " ∷ []) name

-- MOD has two
abbrev pub takes_two : List ℕ → Bool
takes_two name = same_name name (codes "MOD   ")

-- MAX, MAX0, MIN and MIN0 have two arguments or more
abbrev pub has_its_arguments : Use → Bool
has_its_arguments u =
    if takes_one u.name then u.count == 1
    else if takes_two u.name then u.count == 2 else nat_le 2 u.count

-- the names that a statement uses, but for those of functions that it calls
abbrev pub names_used : Kind → List (List ℕ)
names_used k = map (λ u. u.name) (filter is_name (uses k))

-- the names that a statement declares or defines, by INTEGER, DIMENSION or PARAMETER
abbrev pub names_declared : Kind → List (List ℕ)
names_declared k =
    declarator_names (typed_by k) ++ declarator_names (dimensioned_by k)
    ++ definition_names (defined_by k)

-- the names that a statement names: those that it declares or defines, then those that it uses
abbrev pub names_mentioned : Kind → List (List ℕ)
names_mentioned k = names_declared k ++ names_used k
