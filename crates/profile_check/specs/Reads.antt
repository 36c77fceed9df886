-- What a program in the profile is: the lines of its text, the statement of each, the rules of the
-- profile, and the tree.
use Rattle.std.specs.Prelude.{◌≡◌, ℕ, ℤ, Bool, true, false, ◌&&◌}
use Rattle.std.specs.Prelude.{if◌then◌else◌, List, [], ◌∷◌, length, ⊤}
use Rattle.std.specs.List.{list_all}
use Rattle.ast.specs.Program.{ProgramTree, are_placed}
use Rattle.ast.specs.References.{block_expressions, block_references, are_numbered}
use Rattle.ast.specs.Symbols.{Symbol, Sort, variable, fixed}
use Rattle.ast.specs.Store.{same_name}
use Rattle.std.specs.Ordering.{int_eq}
use Rattle.ast.specs.Tree.{Term, Terms, parameter, element, call, parentheses}
use Rattle.ast.specs.Tree.{unary, binary, no_terms, then_term, Statement}
use Rattle.fixed_form.specs.Lines.{Entry, Lines}
use Rattle.profile_check.specs.Declarations.{declared_in, symbols_of}
use Rattle.profile_check.specs.Erasure.{block_erased}
use Rattle.profile_check.specs.Layout.{Lays}
use Rattle.profile_check.specs.Rules.{InProfile}
use Rattle.syntax.specs.Statements.{IsStatement}

-- a name stands for the constant with this value
abbrev pub is_fixed : Sort → ℤ → Bool
is_fixed (variable ds) n = false
is_fixed (fixed m) n = int_eq m n

abbrev pub is_constant : List Symbol → List ℕ → ℤ → Bool
is_constant [] name n = false
is_constant (s ∷ symbols) name n =
    if same_name s.name name then is_fixed s.sort n else is_constant symbols name n

-- each constant of an expression has its value
abbrev mutual
  pub is_meant : List Symbol → Term → Bool
  is_meant symbols (parameter x n) = is_constant symbols x n
  is_meant symbols (element r es) = are_meant symbols es
  is_meant symbols (call f es) = are_meant symbols es
  is_meant symbols (parentheses e) = is_meant symbols e
  is_meant symbols (unary p e) = is_meant symbols e
  is_meant symbols (binary o a b) = is_meant symbols a && is_meant symbols b
  is_meant symbols _ = true

  pub are_meant : List Symbol → Terms → Bool
  are_meant symbols no_terms = true
  are_meant symbols (then_term e es) = is_meant symbols e && are_meant symbols es

-- The statements are the program: its symbols are what they declare, its tree lays out as they
-- stand, and each of its names is what it stands for.
pub record AreProgram (ss : List Statement) (program : ProgramTree) : Type 0 where
  pub symbols : program.symbols ≡ symbols_of (declared_in ss)
  pub laid : Lays (block_erased program.block) ss
  pub meant : list_all (λ e. is_meant program.symbols e) (block_expressions program.block) ≡ true
  pub placed : are_placed program.symbols program.block ≡ true
  pub numbered : are_numbered 0 (block_references program.block) ≡ true
  pub count : program.count ≡ length ss

-- the text of each entry is the statement in its place
abbrev pub Spelled : List Entry → List Statement → Type 0
Spelled [] [] = ⊤
Spelled (e ∷ es) (s ∷ ss) = IsStatement e.line e.label e.text s × Spelled es ss
Spelled _ _ = ⊥

-- the text reads as the program
pub record Reads (text : List ℕ) (program : ProgramTree) : Type 0 where
  pub entries : List Entry
  pub lines : Lines text entries
  pub statements : List Statement
  pub spelled : Spelled entries statements
  pub profile : InProfile statements
  pub tree : AreProgram statements program
