-- What names stand for by the code's declarations.
use Rattle.std.specs.Prelude.{ℕ, List, map, Option, None, Some, option_map}
use Rattle.ast.specs.Tree as tree
use Rattle.ast.specs.Tree.{Term, Terms, element, terms}
use Rattle.ast.specs.View.{access, head, item, kind, letters, optional_term, ref, term}
use Rattle.ast.specs.declared.expression.Access.{Access}
use Rattle.ast.specs.declared.expression.Expr.{Expr}
use Rattle.ast.specs.declared.expression.Reference.{Reference}
use Rattle.ast.specs.declared.statement.DoHead.{DoHead}
use Rattle.ast.specs.declared.statement.Item.{Item}
use Rattle.ast.specs.declared.statement.Kind.{Kind}
use Rattle.profile_check.specs.Declarations.{constant_named}
use Rattle.profile_check.specs.DeclaredView.{constants_of}
use Rattle.ast.specs.Spelling.{intrinsic_named}
use Rattle.profile_check.specs.Resolving.{Table, access_count, access_resolved, accesses_resolved}
use Rattle.profile_check.specs.Resolving.{all_resolved, alone, count, count_all, count_terms}
use Rattle.profile_check.specs.Resolving.{head_resolved, item_count, item_resolved, items_resolved}
use Rattle.profile_check.specs.Resolving.{kind_resolved, list_at, list_resolved, resolved, total}
use Rattle.profile_check.specs.declared.declarations.Declarations.{Declarations}

abbrev pub table_of : Declarations → Table
table_of d =
    record { names = map letters d.names.keys; constants = constants_of d.constants.entries }

-- an expression resolved by the declarations
abbrev pub resolved_at : Declarations → ℕ → Term → Term
resolved_at d n e = resolved (table_of d) n e

-- what stands behind a name in parentheses, and how many references it has
abbrev pub listed : Access → Terms
listed a = terms (map term a.subscripts.items)

abbrev pub count_listed : Access → ℕ
count_listed a = count_terms (listed a)

-- a name with its list as the text has it
abbrev pub written : Access → Term
written a = element (ref a.reference) (listed a)

-- what stands in place of a name with its list: another expression, or else an element; and how
-- many references it has
abbrev pub named : Access → Option Expr → Term
named a None = written a
named a (Some e) = term e

abbrev pub count_named : Access → Option Expr → ℕ
count_named a e = count (named a e)

-- a name with its list, resolved
abbrev pub written_at : Declarations → ℕ → Access → Term
written_at d n a = resolved_at d n (written a)

-- a name alone, resolved
abbrev pub alone_at : Declarations → ℕ → Reference → Term
alone_at d n r = alone (table_of d) n (ref r) (constant_named (table_of d).constants r.name.letters)

-- a name whose list is resolved
abbrev pub named_at : Declarations → ℕ → Access → Term
named_at d n a =
    list_at (table_of d) n (ref a.reference) (listed a) (intrinsic_named a.reference.name.letters)

-- expressions resolved one after another
abbrev pub all_at : Declarations → ℕ → List Expr → List Term
all_at d n es = list_resolved (table_of d) n (map term es)

abbrev pub count_in : List Expr → ℕ
count_in es = count_all (map term es)

-- the same as a list of a tree
abbrev pub terms_at : Declarations → ℕ → List Expr → Terms
terms_at d n es = all_resolved (table_of d) n (terms (map term es))

abbrev pub count_terms_in : List Expr → ℕ
count_terms_in es = count_terms (terms (map term es))

-- an optional expression, resolved
abbrev pub optional_at : Declarations → ℕ → Option Expr → Option Term
optional_at d n e = option_map (λ x. resolved_at d n x) (optional_term e)

-- a variable or an element that is given a value, resolved
abbrev pub target_at : Declarations → ℕ → Access → tree.Access
target_at d n a = access_resolved (table_of d) n (access a)

-- such ones, resolved one after another
abbrev pub targets_at : Declarations → ℕ → List Access → List tree.Access
targets_at d n targets = accesses_resolved (table_of d) n (map access targets)

abbrev pub count_targets : List Access → ℕ
count_targets targets = total access_count (map access targets)

-- an item of a PRINT, resolved
abbrev pub item_at : Declarations → ℕ → Item → tree.PrintItem
item_at d n i = item_resolved (table_of d) n (item i)

-- such ones, resolved one after another
abbrev pub items_at : Declarations → ℕ → List Item → List tree.PrintItem
items_at d n items = items_resolved (table_of d) n (map item items)

abbrev pub count_items : List Item → ℕ
count_items items = total item_count (map item items)

-- the head of a DO, resolved
abbrev pub head_at : Declarations → ℕ → DoHead → tree.DoHead
head_at d n h = head_resolved (table_of d) n (head h)

-- what a statement does, resolved
abbrev pub kind_at : Declarations → ℕ → Kind → tree.Kind
kind_at d n k = kind_resolved (table_of d) n (kind k)
