-- What code of an expression does, in the machine's terms.
use Rattle.std.specs.Prelude.{◌≡◌, ◌≤◌, ◌+◌, ◌^◌, ℕ, ℤ, pos, max, true, List, []}
use Rattle.std.specs.Prelude.{◌∷◌, ◌++◌, length, map, Some, None, Result, Ok, Err}
use Rattle.std.specs.List.{list_all}
use Rattle.ast.specs.Meaning.{looked_up, target, value}
use Rattle.ast.specs.Program.{is_placed}
use Rattle.ast.specs.References.{term_references}
use Rattle.ast.specs.Store.{StoreOf}
use Rattle.ast.specs.Symbols.{Extent, Symbol, dimensions_in, size}
use Rattle.ast.specs.Tree.{Access, accessed, Term, element, call, parentheses}
use Rattle.ast.specs.Tree.{unary, binary, Terms, no_terms, then_term}
use Rattle.ast.specs.declared.expression.Intrinsic.TheVariants.{Max, Max0, Min, Min0}
use Rattle.ast.specs.declared.fault.Fault.{Fault}
use Rattle.machine.specs.Code.{Code}
use Rattle.machine.specs.Frame.{Frame, with_items}
use Rattle.machine.specs.declared.code.Variable.{Variable}
use Rattle.machine.specs.declared.instr.Instr.{Instr}
use Rattle.expr_code.specs.Alone.{alone}
use Rattle.expr_code.specs.Places.{Places, seen_from}

-- how many operands the code of an expression has on the stack at most
abbrev mutual
  pub operands : Term → ℕ
  operands (element r es) = max 1 (operands_kept es)
  operands (call Max es) = operands_chosen es
  operands (call Max0 es) = operands_chosen es
  operands (call Min es) = operands_chosen es
  operands (call Min0 es) = operands_chosen es
  operands (call f es) = max 1 (operands_kept es)
  operands (parentheses e) = operands e
  operands (unary p e) = operands e
  operands (binary o a b) = max (operands a) (operands b + 1)
  operands _ = 1

  -- one after another, each left on the stack
  pub operands_kept : Terms → ℕ
  operands_kept no_terms = 0
  operands_kept (then_term e es) = max (operands e) (operands_kept es + 1)

  pub operands_chosen : Terms → ℕ
  operands_chosen no_terms = 1
  operands_chosen (then_term e es) = max (operands e) (operands_further es)

  pub operands_further : Terms → ℕ
  operands_further no_terms = 1
  operands_further (then_term e es) = max (operands e + 1) (operands_further es)

-- The code's variables are the program's symbols: each has as many cells as its symbol has values.
abbrev pub variables_in : List Variable → List (List ℕ × ℕ)
variables_in xs = map (λ x. (x.name.letters, x.size)) xs

abbrev pub variables_for : List Symbol → List (List ℕ × ℕ)
variables_for symbols = map (λ s. (s.name, size s.sort)) symbols

abbrev pub HasVariables : Code → List Symbol → Type 0
HasVariables code symbols = variables_in code.variables ≡ variables_for symbols

-- An expression whose numbers 32 bits can hold, each reference at the place of its name.
pub record Encodable (p : Places) (e : Term) : Type 0 where
  pub placed : list_all (λ r. is_placed p.symbols r) (term_references e) ≡ true
  pub few_symbols : length p.symbols ≤ 2 ^ 32
  pub few_privates : length p.privates ≤ 2 ^ 32
  pub few_operands : operands e ≤ 2 ^ 32

-- A frame without a fault, with a place for each private scalar, and room for the operands.
pub record Fits (p : Places) (e : Term) (f : Frame) : Type 0 where
  pub sound : f.fault ≡ None
  pub privates : length p.privates ≤ length f.privates
  pub room : length f.operands.items + operands e ≤ f.operands.room

-- Alone, the frame comes after n instructions to what is put onto its operands, and has changed in
-- nothing else; or, after some of them, to a fault of that line.
abbrev pub Leaves : {X : Type 0} → (X → List ℤ → List ℤ) → ℕ → Code → StoreOf
    → Frame → ℕ → Result X Fault → Type 0
Leaves put line code store f n (Ok v) = alone code store n f ≡ Some (record f {
  place = f.place + n;
  operands = with_items (put v f.operands.items) f.operands;
})
Leaves put line code store f n (Err e) =
    (k : ℕ) × (g : Frame) × (k ≤ n) × (alone code store k f ≡ Some g) × (g.fault ≡ Some (e, line))

-- Wherever these instructions stand in a program's code, run alone from their beginning they leave
-- the expression's value on the operands, or its fault, with the frame's private scalars and its
-- value of the open loop's variable in the place of the store's.
abbrev pub Computes : Places → Term → List Instr → Type 0
Computes p e is =
    Encodable p e → (code : Code) (before after : List Instr) (f : Frame) (store : StoreOf)
    → HasVariables code p.symbols → code.instructions ≡ before ++ (is ++ after)
    → f.place ≡ length before → Fits p e f
    → Leaves (λ v xs. v ∷ xs) p.line code store f (length is)
    (value (looked_up p.symbols (seen_from p f store)) e)

-- the place of a variable with these dimensions on top of operands; of a scalar nothing is there
abbrev pub with_place : List Extent → ℕ → List ℤ → List ℤ
with_place [] n xs = xs
with_place (d ∷ ds) n xs = pos n ∷ xs

-- The same of the place of a variable that is given a value.
abbrev pub Locates : Places → Access → List Instr → Type 0
Locates p a is =
    Encodable p (accessed a)
    → (code : Code) (before after : List Instr) (f : Frame) (store : StoreOf)
    → HasVariables code p.symbols → code.instructions ≡ before ++ (is ++ after)
    → f.place ≡ length before → Fits p (accessed a) f
    → Leaves (with_place (dimensions_in p.symbols a.ref.name)) p.line code store f
    (length is) (target p.symbols (seen_from p f store) a)

-- Code that computes the expression was appended.
pub record Appended (p : Places) (e : Term) (old new : List Instr) : Type 0 where
  pub more : List Instr
  pub is : new ≡ old ++ more
  pub computes : Computes p e more

pub record PlaceAppended (p : Places) (a : Access) (old new : List Instr) : Type 0 where
  pub more : List Instr
  pub is : new ≡ old ++ more
  pub locates : Locates p a more
