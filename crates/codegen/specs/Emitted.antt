-- An account of the code: what is emitted for statements, by recursion on their tree.
use Rattle.std.specs.Prelude.{ℕ, pos, ◌+◌, if◌then◌else◌, List, []}
use Rattle.std.specs.Prelude.{◌∷◌, ◌++◌, length, Option, Some, None}
use Rattle.ast.specs.Tree.{Ref, Term, Access, PrintItem, value_item}
use Rattle.ast.specs.Tree.{text_item, DoHead, Kind, assign, print, read, stop}
use Rattle.ast.specs.declared.expression.Operator.TheVariants.{Add}
use Rattle.dependence.specs.Plan.{PlanNode, awaits, advances, plain, loop, choose, PlanBlock}
use Rattle.dependence.specs.Plan.{no_nodes, then_node, PlanArms, no_arms, made_else, then_arm}
use Rattle.machine.specs.Code.{Part, operand, text_as}
use Rattle.machine.specs.declared.instr.Act.TheVariants as acts
use Rattle.machine.specs.declared.code.Await.{Await}
use Rattle.machine.specs.declared.instr.Instr.{Instr}
use Rattle.expr_code.specs.Emitted.{given_act, instr, scalar_act, short, target_code, term_code}
use Rattle.expr_code.specs.Places.{Places, dimensions_at, home}
use Rattle.codegen.specs.Process.{is_last_stop}

-- a value that was pushed goes to an element
abbrev pub stored_code : Places → Access → List Instr
stored_code p x =
    target_code p x.ref x.subscripts ++ instr p.line (given_act (dimensions_at p.symbols x.ref.cell)
    (home p (dimensions_at p.symbols x.ref.cell) x.ref.name) x.ref.cell) ∷ []

-- the values of a PRINT's items are pushed, one after another
abbrev pub items_code : Places → List PrintItem → List Instr
items_code p [] = []
items_code p (value_item e ∷ items) = term_code p e ++ items_code p items
items_code p (text_item t ∷ items) = items_code p items

-- the parts of the record of these items
abbrev pub parts_of : List PrintItem → List Part
parts_of [] = []
parts_of (value_item e ∷ items) = operand ∷ parts_of items
parts_of (text_item t ∷ items) = text_as t ∷ parts_of items

-- the elements of a READ get values, one after another
abbrev pub elements_code : Places → List Access → List Instr
elements_code p [] = []
elements_code p (x ∷ more) = instr p.line acts.TakeValue ∷ (stored_code p x ++ elements_code p more)

-- the records that a statement's code prints
abbrev pub kind_records : Kind → List (List Part)
kind_records (print items) = parts_of items ∷ []
kind_records _ = []

-- n: how many records stand before
abbrev pub kind_code : Places → ℕ → Kind → List Instr
kind_code p n (assign x e) = term_code p e ++ stored_code p x
kind_code p n (print items) = items_code p items ++ instr p.line (acts.Print (short n)) ∷ []
kind_code p n (read elements) =
    instr p.line acts.TakeRecord ∷ (elements_code p elements ++ instr p.line acts.DropRecord ∷ [])
kind_code p n stop = instr p.line acts.Stop ∷ []
kind_code p n _ = []

-- the step of a DO is pushed, 1 where it is absent
abbrev pub step_code : Places → Option Term → List Instr
step_code p None = instr p.line (acts.Constant (pos 1)) ∷ []
step_code p (Some e) = term_code p e

-- the variable of a DO gets the value on top
abbrev pub variable_code : Places → Ref → List Instr
variable_code p r = instr p.line (given_act [] (home p [] r.name) r.cell) ∷ []

-- the variable of a DO grows by the step
abbrev pub grown_code : Places → Ref → List Instr
grown_code p r =
    instr p.line (scalar_act (home p [] r.name) r.cell) ∷ instr p.line acts.Step
    ∷ instr p.line (acts.Binary Add) ∷ variable_code p r

-- the trips of a serial DO around the code of its range
abbrev pub turns_code : Places → Ref → List Instr → List Instr
turns_code p r range =
    instr p.line (acts.CountDown (short (length (range ++ grown_code p r) + 1)))
    ∷ ((range ++ grown_code p r)
    ++ instr p.line (acts.Back (short (length (range ++ grown_code p r) + 1))) ∷ [])

abbrev pub serial_code : Places → DoHead → List Instr → List Instr
serial_code p h range =
    term_code p h.first ++ (term_code p h.last ++ (step_code p h.step
    ++ (instr p.line acts.SetUp ∷ (variable_code p h.variable ++ turns_code p h.variable range))))

abbrev pub opened_code : Places → DoHead → ℕ → List Instr
opened_code p h n =
    term_code p h.first
    ++ (term_code p h.last ++ (instr p.line (acts.Open (short n)) ∷ instr p.line acts.Join ∷ []))

-- the code of an IF with this condition's arm and the arms behind it
abbrev pub chosen_code : Places → List Instr → List Instr → List Instr
chosen_code p body others =
    instr p.line (acts.SkipUnless (short (length body + 1)))
    ∷ (body ++ instr p.line (acts.Skip (short (length others))) ∷ others)

abbrev pub loop_code : Option ℕ → Places → DoHead → List Instr → List Instr
loop_code None p h range = serial_code p h range
loop_code (Some n) p h range = opened_code p h n

-- the range of an opened loop has its code elsewhere
abbrev pub if_serial : {X : Type 0} → Option ℕ → List X → List X
if_serial None xs = xs
if_serial (Some n) xs = []

module _ (p : Places) (opens : ℕ → Option ℕ) where
  abbrev on : ℕ → Places
  on line = record p { line = line }

  -- the records that are printed, and what is awaited, in order
  abbrev mutual
    pub node_records : PlanNode → List (List Part)
    node_records (awaits e d) = []
    node_records (advances e) = []
    node_records (plain s) = kind_records s.kind
    node_records (loop line h b) = if_serial (opens h.variable.id) (block_records b)
    node_records (choose arms) = arms_records arms

    pub block_records : PlanBlock → List (List Part)
    block_records no_nodes = []
    block_records (then_node n b) =
        if is_last_stop n b then [] else node_records n ++ block_records b

    pub arms_records : PlanArms → List (List Part)
    arms_records no_arms = []
    arms_records (made_else b) = block_records b
    arms_records (then_arm line None b more) = block_records b
    arms_records (then_arm line (Some c) b more) = block_records b ++ arms_records more

  abbrev mutual
    pub node_awaits : PlanNode → List Await
    node_awaits (awaits e d) = record { event = short e; distance = d } ∷ []
    node_awaits (advances e) = []
    node_awaits (plain s) = []
    node_awaits (loop line h b) = if_serial (opens h.variable.id) (block_awaits b)
    node_awaits (choose arms) = arms_awaits arms

    pub block_awaits : PlanBlock → List Await
    block_awaits no_nodes = []
    block_awaits (then_node n b) = if is_last_stop n b then [] else node_awaits n ++ block_awaits b

    pub arms_awaits : PlanArms → List Await
    arms_awaits no_arms = []
    arms_awaits (made_else b) = block_awaits b
    arms_awaits (then_arm line None b more) = block_awaits b
    arms_awaits (then_arm line (Some c) b more) = block_awaits b ++ arms_awaits more

  -- r, w: how many records and awaits stand before
  abbrev mutual
    pub node_code : ℕ → ℕ → PlanNode → List Instr
    node_code r w (awaits e d) = instr p.line (acts.Await (short w)) ∷ []
    node_code r w (advances e) = instr p.line (acts.Advance (short e)) ∷ []
    node_code r w (plain s) = kind_code (on s.line) r s.kind
    node_code r w (loop line h b) = loop_code (opens h.variable.id) (on line) h (block_code r w b)
    node_code r w (choose arms) = arms_code r w arms

    pub block_code : ℕ → ℕ → PlanBlock → List Instr
    block_code r w no_nodes = []
    block_code r w (then_node n b) =
        if is_last_stop n b then []
        else node_code r w n
        ++ block_code (r + length (node_records n)) (w + length (node_awaits n)) b

    pub arms_code : ℕ → ℕ → PlanArms → List Instr
    arms_code r w no_arms = []
    arms_code r w (made_else b) = block_code r w b
    arms_code r w (then_arm line None b more) = block_code r w b
    arms_code r w (then_arm line (Some c) b more) =
        term_code (on line) c ++ chosen_code (on line) (block_code r w b)
        (arms_code (r + length (block_records b)) (w + length (block_awaits b)) more)
