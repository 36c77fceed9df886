-- The sequential meaning of a program, by recursion on its tree and on the trips that are left. It
-- knows no code, no processor and no event.
use Rattle.std.specs.Prelude.{ℕ, ℤ, zero, suc, pos, ◌+ℤ◌, Bool, true, false, if◌then◌else◌}
use Rattle.std.specs.Prelude.{List, [], ◌∷◌, ◌++◌, Option, Some, None, Result, Ok, Err}
use Rattle.std.specs.Ordering.{int_eq}
use Rattle.ast.specs.Exact.{truth_value, is_true, value_of, prefixed_value}
use Rattle.ast.specs.Exact.{intrinsic_value, in_range, trips}
use Rattle.ast.specs.Input.{records_of, taken, next_integer}
use Rattle.ast.specs.Program.{ProgramTree}
use Rattle.ast.specs.Record.{Printed, number, text, record_of}
use Rattle.ast.specs.Results.{◌>>=◌}
use Rattle.ast.specs.Store.{StoreOf, zeros, put}
use Rattle.ast.specs.Symbols.{Symbol, place_of, dimensions_in}
use Rattle.ast.specs.Tree.{Ref, Term, constant, truth, parameter, element, call, parentheses, unary}
use Rattle.ast.specs.Tree.{binary, Terms, no_terms, then_term, Access, PrintItem, value_item}
use Rattle.ast.specs.Tree.{text_item, Kind, assign, print, read, stop, end, Node, plain}
use Rattle.ast.specs.Tree.{loop, choose, Block, no_nodes, then_node, Arms, no_arms, then_arm}
use Rattle.ast.specs.declared.fault.Fault.{Fault}
use Rattle.ast.specs.declared.fault.Fault.TheVariants.{ZeroStep}
use Rattle.ast.specs.declared.fault.End.{End}
use Rattle.ast.specs.declared.fault.End.TheVariants.{Done, Stopped, Fault as Faulted}

-- what a reference with the values of its subscripts gives
abbrev pub LookUp : Type 0
LookUp = Ref → List ℤ → Result ℤ Fault

-- The value of an expression, or its first fault: all operands, from left to right, also under
-- .AND. and .OR.; of an element its subscripts, then what it holds.
abbrev mutual
  pub value : LookUp → Term → Result ℤ Fault
  value look (constant n) = Ok n
  value look (truth b) = Ok (truth_value b)
  value look (parameter x n) = Ok n
  value look (element r es) = values look es >>= λ xs. look r xs
  value look (call f es) = values look es >>= λ xs. intrinsic_value f xs
  value look (parentheses e) = value look e
  value look (unary p e) = value look e >>= λ a. prefixed_value p a
  value look (binary o a b) = value look a >>= λ u. value look b >>= λ v. value_of o u v

  pub values : LookUp → Terms → Result (List ℤ) Fault
  values look no_terms = Ok []
  values look (then_term e es) = value look e >>= λ x. values look es >>= λ xs. Ok (x ∷ xs)

-- the place of an element: its subscripts are evaluated, then checked
abbrev pub place_in : List Symbol → List ℕ → List ℤ → Result ℕ Fault
place_in symbols name xs = place_of (dimensions_in symbols name) xs

abbrev pub looked_up : List Symbol → StoreOf → LookUp
looked_up symbols store r xs = place_in symbols r.name xs >>= λ p. Ok (store r.name p)

-- where a run stands: the store, the records of the input that are left, the output so far, and how
-- it ended, Done as long as it can go on
pub record Run : Type 0 where
  pub store : StoreOf
  pub input : List (List ℕ)
  pub output : List ℕ
  pub end : End

-- goes on only where nothing has ended the run
abbrev pub going_on : End → Run → (Run → Run) → Run
going_on Done run next = next run
going_on _ run next = run

abbrev pub then_do : Run → (Run → Run) → Run
then_do run next = going_on run.end run next

-- goes on with a value; a fault ends the run at the statement's line
abbrev pub given : {X : Type 0} → Result X Fault → ℕ → Run → (X → Run) → Run
given (Ok x) line run next = next x
given (Err f) line run next = record run { end = Faulted f line }

-- the run with one element changed
abbrev pub written : Run → List ℕ → ℕ → ℤ → Run
written run name place n = record run { store = put run.store name place n }

-- what the items of a PRINT print, or their first fault, from left to right
abbrev pub printed : LookUp → List PrintItem → Result (List Printed) Fault
printed look [] = Ok []
printed look (value_item e ∷ items) =
    value look e >>= λ n. printed look items >>= λ ps. Ok (number n ∷ ps)
printed look (text_item t ∷ items) = printed look items >>= λ ps. Ok (text t ∷ ps)

-- the three parameters of a DO, evaluated once; the last is 1 where it is absent
abbrev pub step_value : LookUp → Option Term → Result ℤ Fault
step_value look None = Ok (pos 1)
step_value look (Some e) = value look e

-- n times in a row, as long as the run goes on
abbrev pub turns : (Run → Run) → ℕ → Run → Run
turns turn zero run = run
turns turn (suc n) run = then_do (turn run) (λ after. turns turn n after)

-- whether a node is a STOP that END follows
abbrev pub are_stop_and_end : Kind → Kind → Bool
are_stop_and_end stop end = true
are_stop_and_end _ _ = false

-- whether a node is a STOP and what stands behind it in its block is END alone
abbrev pub is_last_stop : Node → Block → Bool
is_last_stop (plain s) (then_node (plain t) no_nodes) = are_stop_and_end s.kind t.kind
is_last_stop _ _ = false

-- whether a block is a STOP that END follows
abbrev pub is_last_stop_of : Block → Bool
is_last_stop_of no_nodes = false
is_last_stop_of (then_node n b) = is_last_stop n b

-- the place of an element that is given a value
abbrev pub target : List Symbol → StoreOf → Access → Result ℕ Fault
target symbols store a =
    values (looked_up symbols store) a.subscripts >>= λ xs. place_in symbols a.ref.name xs

-- READ stores value by value: each is taken before the subscripts of its element are evaluated
abbrev pub read_elements : List Symbol → ℕ → List Access → List ℤ → Run → Run
read_elements symbols line [] xs run = run
read_elements symbols line (a ∷ more) xs run =
    given (next_integer xs run.input) line run (λ x.
    given (target symbols run.store a) line run (λ p.
    read_elements symbols line more x.1 (written (record run { input = x.2 }) a.ref.name p x.0)))

-- where a run stands after a statement that holds no others
abbrev pub exec_plain : List Symbol → ℕ → Kind → Run → Run
exec_plain symbols line (assign a e) run =
    given (value (looked_up symbols run.store) e) line run (λ n.
    given (target symbols run.store a) line run (λ p. written run a.ref.name p n))
exec_plain symbols line (print items) run =
    given (printed (looked_up symbols run.store) items) line run
    (λ ps. record run { output = run.output ++ record_of ps })
exec_plain symbols line (read elements) run =
    given (taken run.input) line run
    (λ x. read_elements symbols line elements x.0 (record run { input = x.1 }))
exec_plain symbols line stop run = record run { end = Stopped line }
exec_plain symbols line _ run = run

-- after each trip the DO variable grows by the step
abbrev pub grown : ℕ → List ℕ → ℤ → Run → Run
grown line name step run =
    given (in_range (run.store name 0 +ℤ step)) line run (λ n. written run name 0 n)

-- the trips of a loop whose range runs so, by its parameters
abbrev pub looped : ℕ → List ℕ → (Run → Run) → ℤ → ℤ → ℤ → Run → Run
looped line name range m1 m2 m3 run =
    if int_eq m3 (pos 0) then record run { end = Faulted ZeroStep line }
    else turns (λ before. then_do (range before) (λ after. grown line name m3 after))
    (trips m1 m2 m3) (written run name 0 m1)

abbrev mutual
  -- Where a run stands after a statement. The parameters of a DO are evaluated first, in order.
  pub exec : List Symbol → Node → Run → Run
  exec symbols (plain s) run = exec_plain symbols s.line s.kind run
  exec symbols (loop line h b) run =
      given (value (looked_up symbols run.store) h.first) line run (λ m1.
      given (value (looked_up symbols run.store) h.last) line run (λ m2.
      given (step_value (looked_up symbols run.store) h.step) line run (λ m3.
      looped line h.variable.name (λ before. exec_block symbols b before) m1 m2 m3 run)))
  exec symbols (choose a) run = exec_arms symbols a run

  -- a STOP that END follows does what END does
  pub exec_block : List Symbol → Block → Run → Run
  exec_block symbols no_nodes run = run
  exec_block symbols (then_node n b) run =
      if is_last_stop n b then run
      else then_do (exec symbols n run) (λ after. exec_block symbols b after)

  -- the first arm whose condition is true, an ELSE without one
  pub exec_arms : List Symbol → Arms → Run → Run
  exec_arms symbols no_arms run = run
  exec_arms symbols (then_arm line None b more) run = exec_block symbols b run
  exec_arms symbols (then_arm line (Some c) b more) run =
      given (value (looked_up symbols run.store) c) line run
      (λ v. if is_true v then exec_block symbols b run else exec_arms symbols more run)

-- where every run starts: a store of zeros, the records of the input, no output
abbrev pub start : List ℕ → Run
start input = record { store = zeros; input = records_of input; output = []; end = Done }

-- the run of a whole program on an input
abbrev pub seq : ProgramTree → List ℕ → Run
seq program input = exec_block program.symbols program.block (start input)
