-- What a statement of a text has for the program: its expressions, and its text without what names
-- stand for.
use Rattle.std.specs.Prelude.{◌≡◌, ℕ, ℤ, Bool, true, not, ◌&&◌, ◌||◌, ◌==◌, nat_le, List, [], ◌∷◌, ◌++◌, Some}
use Rattle.std.specs.List.{list_all}
use Rattle.ast.specs.Program.{is_placed, greatest_depth}
use Rattle.ast.specs.References.{kind_expressions, head_expressions}
use Rattle.ast.specs.Symbols.{Symbol}
use Rattle.ast.specs.Tree.{Ref, Term, Kind, do_loop, block_if, else_if, logical_if, Statement, depth}
use Rattle.profile_check.specs.Declarations.{Declared, Constants, constant_named}
use Rattle.profile_check.specs.Erasure.{erased, head_erased, kind_erased}
use Rattle.profile_check.specs.Reads.{is_constant}
use Rattle.profile_check.specs.Resolving.{Table, numbered}
use Rattle.profile_check.specs.Rules as rules
use Rattle.profile_check.specs.Uses.{Use, is_call, is_among}

-- the expressions of a statement, in order of evaluation
abbrev pub own_expressions : Kind → List Term
own_expressions (do_loop h) = head_expressions h
own_expressions (block_if c) = c ∷ []
own_expressions (else_if c) = c ∷ []
own_expressions (logical_if c k) = c ∷ kind_expressions k
own_expressions k = kind_expressions k

abbrev pub expressions_in : List Statement → List Term
expressions_in [] = []
expressions_in (s ∷ ss) = own_expressions s.kind ++ expressions_in ss

-- a statement as its text has it
abbrev pub own_text : Kind → Kind
own_text (do_loop h) = do_loop (head_erased h)
own_text (block_if c) = block_if (erased c)
own_text (else_if c) = else_if (erased c)
own_text (logical_if c k) = logical_if (erased c) (kind_erased k)
own_text k = kind_erased k

abbrev pub text_of : Statement → Statement
text_of s = record { line = s.line; label = s.label; kind = own_text s.kind }

abbrev pub are_shallow_in : List Term → Bool
are_shallow_in es = list_all (λ e. nat_le (depth e) greatest_depth) es

-- the table of the names that are declared
abbrev pub table_in : Declared → Table
table_in d = record { names = d.names; constants = d.constants }

-- a name that is no constant
abbrev pub is_free : Constants → List ℕ → Bool
is_free cs name = not (rules.is_constant cs name)

-- each constant of the table is one of the symbols, and each other name a variable's
pub record Serves (symbols : List Symbol) (t : Table) : Type 0 where
  pub constants : (x : List ℕ) (v : ℤ) → constant_named t.constants x ≡ Some v → is_constant symbols x v ≡ true
  pub places : (r : Ref) (n : ℕ) → is_among t.names r.name ≡ true → is_free t.constants r.name ≡ true → is_placed symbols (numbered t n r) ≡ true

-- A use of a name is sound where it calls an intrinsic function, or the name stands in the table
-- and is no constant, unless it stands alone and is given nothing.
abbrev pub is_sound : Table → Use → Bool
is_sound t u = is_call u || (is_among t.names u.name && (is_free t.constants u.name || (u.count == 0 && not u.is_given)))
