-- What the names of a statement stand for, and the numbers of its references: an account of the
-- code.
use Rattle.std.specs.Prelude.{ℕ, ℤ, ◌+◌, List, [], ◌∷◌, Option, Some}
use Rattle.std.specs.Prelude.{None, position, unwrap_or, option_map}
use Rattle.ast.specs.Spelling.{intrinsic_named}
use Rattle.ast.specs.Store.{same_name}
use Rattle.ast.specs.Tree.{Ref, Term, Terms, parameter, element, call, parentheses}
use Rattle.ast.specs.Tree.{unary, binary, no_terms, then_term, Access, PrintItem}
use Rattle.ast.specs.Tree.{value_item, text_item, DoHead, Kind, assign, do_loop}
use Rattle.ast.specs.Tree.{block_if, else_if, logical_if, print, read, Statement}
use Rattle.ast.specs.declared.expression.Intrinsic.{Intrinsic}
use Rattle.profile_check.specs.Declarations.{Constants, constant_named}

-- the names of a program in the order of its symbols, and its constants
pub record Table : Type 0 where
  pub names : List (List ℕ)
  pub constants : Constants

-- the place of a name in a table that holds it
abbrev pub place_of : List (List ℕ) → List ℕ → ℕ
place_of names name = unwrap_or (position (same_name name) names) 0

-- a reference with its number and its place
abbrev pub numbered : Table → ℕ → Ref → Ref
numbered t n r = record { name = r.name; id = n; cell = place_of t.names r.name }

-- Things from left to right, each after the references of those before it; f takes the number from
-- which a thing's references go on, c says how many it has.
abbrev pub in_turn : {X : Type 0} → (ℕ → X → X) → (X → ℕ) → ℕ → List X → List X
in_turn f c n [] = []
in_turn f c n (x ∷ xs) = f n x ∷ in_turn f c (n + c (f n x)) xs

abbrev pub total : {X : Type 0} → (X → ℕ) → List X → ℕ
total c [] = 0
total c (x ∷ xs) = c x + total c xs

-- how many references an expression has
abbrev mutual
  pub count : Term → ℕ
  count (element r es) = count_terms es + 1
  count (call f es) = count_terms es
  count (parentheses e) = count e
  count (unary p e) = count e
  count (binary o a b) = count a + count b
  count e = 0

  pub count_terms : Terms → ℕ
  count_terms no_terms = 0
  count_terms (then_term e es) = count e + count_terms es

-- a name alone is a constant or a variable
abbrev pub alone : Table → ℕ → Ref → Option ℤ → Term
alone t n r None = element (numbered t n r) no_terms
alone t n r (Some v) = parameter r.name v

-- a name with arguments or subscripts
abbrev pub list_at : Table → ℕ → Ref → Terms → Option Intrinsic → Term
list_at t n r es None = element (numbered t n r) es
list_at t n r es (Some f) = call f es

abbrev pub with_list : Table → ℕ → Ref → Terms → Option Intrinsic → Term
with_list t n r es f = list_at t (n + count_terms es) r es f

abbrev mutual
  pub resolved : Table → ℕ → Term → Term
  resolved t n (element r no_terms) = alone t n r (constant_named t.constants r.name)
  resolved t n (element r (then_term e es)) =
      with_list t n r (then_term (resolved t n e) (all_resolved t (n + count (resolved t n e)) es))
      (intrinsic_named r.name)
  resolved t n (call f es) = call f (all_resolved t n es)
  resolved t n (parentheses e) = parentheses (resolved t n e)
  resolved t n (unary p e) = unary p (resolved t n e)
  resolved t n (binary o a b) =
      binary o (resolved t n a) (resolved t (n + count (resolved t n a)) b)
  resolved t n e = e

  pub all_resolved : Table → ℕ → Terms → Terms
  all_resolved t n no_terms = no_terms
  all_resolved t n (then_term e es) =
      then_term (resolved t n e) (all_resolved t (n + count (resolved t n e)) es)

-- an element that is given a value is a variable's
abbrev pub access_count : Access → ℕ
access_count a = count_terms a.subscripts + 1

abbrev pub access_resolved : Table → ℕ → Access → Access
access_resolved t n a = record {
  ref = numbered t (n + count_terms (all_resolved t n a.subscripts)) a.ref;
  subscripts = all_resolved t n a.subscripts;
}

-- the same of a list, and how many references its expressions have
abbrev pub list_resolved : Table → ℕ → List Term → List Term
list_resolved t n es = in_turn (λ m e. resolved t m e) count n es

abbrev pub count_all : List Term → ℕ
count_all es = total count es

-- the elements that READ gives values
abbrev pub accesses_resolved : Table → ℕ → List Access → List Access
accesses_resolved t n targets = in_turn (λ m a. access_resolved t m a) access_count n targets

-- the items of a PRINT
abbrev pub item_resolved : Table → ℕ → PrintItem → PrintItem
item_resolved t n (value_item e) = value_item (resolved t n e)
item_resolved t n (text_item x) = text_item x

abbrev pub item_count : PrintItem → ℕ
item_count (value_item e) = count e
item_count (text_item x) = 0

abbrev pub items_resolved : Table → ℕ → List PrintItem → List PrintItem
items_resolved t n items = in_turn (λ m i. item_resolved t m i) item_count n items

-- the head of a DO: its parameters, then its variable
abbrev pub count_optional : Option Term → ℕ
count_optional None = 0
count_optional (Some e) = count e

abbrev pub head_of : Table → ℕ → DoHead → Term → Term → Option Term → DoHead
head_of t n h first last step = record {
  terminal = h.terminal;
  variable = numbered t (n + count first + count last + count_optional step) h.variable;
  first = first;
  last = last;
  step = step;
}

abbrev pub head_from : Table → ℕ → DoHead → Term → Term → DoHead
head_from t n h first last =
    head_of t n h first last (option_map (λ e. resolved t (n + count first + count last) e) h.step)

abbrev pub head_resolved : Table → ℕ → DoHead → DoHead
head_resolved t n h =
    head_from t n h (resolved t n h.first) (resolved t (n + count (resolved t n h.first)) h.last)

abbrev pub head_count : DoHead → ℕ
head_count h = count h.first + count h.last + count_optional h.step + 1

-- what a statement does
abbrev pub kind_resolved : Table → ℕ → Kind → Kind
kind_resolved t n (assign a e) =
    assign (access_resolved t (n + count (resolved t n e)) a) (resolved t n e)
kind_resolved t n (do_loop h) = do_loop (head_resolved t n h)
kind_resolved t n (block_if e) = block_if (resolved t n e)
kind_resolved t n (else_if e) = else_if (resolved t n e)
kind_resolved t n (logical_if e k) =
    logical_if (resolved t n e) (kind_resolved t (n + count (resolved t n e)) k)
kind_resolved t n (print items) = print (items_resolved t n items)
kind_resolved t n (read elements) = read (accesses_resolved t n elements)
kind_resolved t n k = k

abbrev pub kind_count : Kind → ℕ
kind_count (assign a e) = count e + access_count a
kind_count (do_loop h) = head_count h
kind_count (block_if e) = count e
kind_count (else_if e) = count e
kind_count (logical_if e k) = count e + kind_count k
kind_count (print items) = total item_count items
kind_count (read elements) = total access_count elements
kind_count k = 0

-- statements one after another
abbrev pub statement_resolved : Table → ℕ → Statement → Statement
statement_resolved t n s =
    record { line = s.line; label = s.label; kind = kind_resolved t n s.kind }

abbrev pub statement_count : Statement → ℕ
statement_count s = kind_count s.kind

abbrev pub statements_resolved : Table → ℕ → List Statement → List Statement
statements_resolved t n ss = in_turn (λ m s. statement_resolved t m s) statement_count n ss

abbrev pub references_in : List Statement → ℕ
references_in ss = total statement_count ss
