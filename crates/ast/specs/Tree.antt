-- The trees that definitions speak of. A name is the list of its six codes, blanks filling it on
-- the right.
use Rattle.std.specs.Prelude.{ℕ, ℤ, Bool, List, [], ◌∷◌, ◌+◌, max, Option}
use Rattle.ast.specs.declared.expression.Operator.{Operator}
use Rattle.ast.specs.declared.expression.Prefix.{Prefix}
use Rattle.ast.specs.declared.expression.Intrinsic.{Intrinsic}

-- a reference: its name, its number among the program's references, and the place of its name among
-- the program's symbols
pub record Ref : Type 0 where
  pub name : List ℕ
  pub id : ℕ
  pub cell : ℕ

mutual
  -- An expression. A scalar variable is an element without subscripts; in the text of a statement
  -- an element is any name, with what follows it in parentheses.
  pub data Term : Type 0 where
    constant : ℤ → Term
    truth : Bool → Term
    parameter : List ℕ → ℤ → Term
    element : Ref → Terms → Term
    call : Intrinsic → Terms → Term
    parentheses : Term → Term
    unary : Prefix → Term → Term
    binary : Operator → Term → Term → Term

  pub data Terms : Type 0 where
    no_terms : Terms
    then_term : Term → Terms → Terms

-- how many they are
abbrev pub count_of : Terms → ℕ
count_of no_terms = 0
count_of (then_term e es) = count_of es + 1

abbrev pub terms : List Term → Terms
terms [] = no_terms
terms (e ∷ es) = then_term e (terms es)

-- a reference with its subscripts
pub record Access : Type 0 where
  pub ref : Ref
  pub subscripts : Terms

abbrev pub accessed : Access → Term
accessed a = element a.ref a.subscripts

-- an item of a PRINT
pub data PrintItem : Type 0 where
  value_item : Term → PrintItem
  text_item : List ℕ → PrintItem

-- the bounds of a dimension, the lower one 1 where it is absent
pub record Bounds : Type 0 where
  pub lower : Option Term
  pub upper : Term

-- a name that a statement declares, with the bounds that it gives
pub record Declarator : Type 0 where
  pub name : List ℕ
  pub bounds : List Bounds

-- a name that a PARAMETER statement gives a value
pub record Definition : Type 0 where
  pub name : List ℕ
  pub value : Term

-- a DO statement: the label of its terminal statement, its variable, and its three parameters, the
-- last 1 where it is absent
pub record DoHead : Type 0 where
  pub terminal : ℕ
  pub variable : Ref
  pub first : Term
  pub last : Term
  pub step : Option Term

-- what a statement of the text does
pub data Kind : Type 0 where
  program : List ℕ → Kind
  integer : List Declarator → Kind
  dimension : List Declarator → Kind
  parameters : List Definition → Kind
  assign : Access → Term → Kind
  do_loop : DoHead → Kind
  go_on : Kind
  block_if : Term → Kind
  else_if : Term → Kind
  else_arm : Kind
  end_if : Kind
  logical_if : Term → Kind → Kind
  print : List PrintItem → Kind
  read : List Access → Kind
  stop : Kind
  end : Kind

-- a statement of the text: the number of its initial line, its label, and what it does
pub record Statement : Type 0 where
  pub line : ℕ
  pub label : Option ℕ
  pub kind : Kind

mutual
  -- A program's statements, nested: a loop holds its range, an IF its arms. An arm has the line of
  -- its IF, ELSE IF or ELSE, and a condition unless it is an ELSE. A logical IF has one arm.
  pub data Node : Type 0 where
    plain : Statement → Node
    loop : ℕ → DoHead → Block → Node
    choose : Arms → Node

  -- statements, one after another
  pub data Block : Type 0 where
    no_nodes : Block
    then_node : Node → Block → Block

  -- the arms of an IF: the line, the condition if it is no ELSE, and the statements of each
  pub data Arms : Type 0 where
    no_arms : Arms
    then_arm : ℕ → Option Term → Block → Arms → Arms

-- the block of a list of nodes
abbrev pub block : List Node → Block
block [] = no_nodes
block (n ∷ ns) = then_node n (block ns)

-- an arm by itself
pub record Arm : Type 0 where
  pub line : ℕ
  pub condition : Option Term
  pub body : Block

abbrev pub arms : List Arm → Arms
arms [] = no_arms
arms (a ∷ more) = then_arm a.line a.condition a.body (arms more)

-- how deep an expression is: a leaf has depth 1; a sign, an operator, a call, a list of subscripts
-- or a parenthesis one more than its deepest part
abbrev mutual
  pub depth : Term → ℕ
  depth (element r no_terms) = 1
  depth (element r (then_term e es)) = max (depth e) (deepest es) + 1
  depth (call f es) = deepest es + 1
  depth (parentheses e) = depth e + 1
  depth (unary p e) = depth e + 1
  depth (binary o a b) = max (depth a) (depth b) + 1
  depth _ = 1

  pub deepest : Terms → ℕ
  deepest no_terms = 0
  deepest (then_term e es) = max (depth e) (deepest es)
