-- An account of the code: blocks of a program as main runs them, some of their loops being opened.
use Rattle.std.specs.Prelude.{◌≡◌, ℕ, ◌+◌, ◌-◌, max, Option, Some}
use Rattle.std.specs.Prelude.{None, List, [], ◌∷◌, ◌++◌, length, set}
use Rattle.ast.specs.Tree.{Ref, Term, PrintItem, value_item}
use Rattle.ast.specs.Tree.{text_item, DoHead, Arm, Node, Block, Arms}
use Rattle.machine.specs.Code.{Part}
use Rattle.machine.specs.declared.instr.Act.TheVariants as acts
use Rattle.machine.specs.declared.instr.Instr.{Instr}
use Rattle.expr_code.specs.Computes.{operands}
use Rattle.expr_code.specs.Emitted.{instr, short, term_code}
use Rattle.expr_code.specs.Places.{Places}
use Rattle.codegen.specs.Emitted.{arms_code, arms_records, block_code, block_records}
use Rattle.codegen.specs.Emitted.{grown_code, node_code, node_records, step_code, variable_code}
use Rattle.codegen.specs.Plain.{plain_arms, plain_block, plain_node}
use Rattle.codegen.specs.Room.{block_loops, block_room}
use Rattle.codegen.specs.declared.skips.Pending.{Pending}

-- opens: the numbers of the loops that are opened, by their DO variables' references
module _ (opens : ℕ → Option ℕ) (p : Places) where
  -- r: how many records stand before
  abbrev pub code_of_block : ℕ → Block → List Instr
  code_of_block r b = block_code p opens r 0 (plain_block b)

  abbrev pub code_of_node : ℕ → Node → List Instr
  code_of_node r n = node_code p opens r 0 (plain_node n)

  abbrev pub code_of_arms : ℕ → Arms → List Instr
  code_of_arms r a = arms_code p opens r 0 (plain_arms a)

  abbrev pub records_in_block : Block → List (List Part)
  records_in_block b = block_records p opens (plain_block b)

  abbrev pub records_in_node : Node → List (List Part)
  records_in_node n = node_records p opens (plain_node n)

  abbrev pub records_in_arms : Arms → List (List Part)
  records_in_arms a = arms_records p opens (plain_arms a)

-- ---- loops

-- a serial DO up to its trips
abbrev pub begun_code : Places → DoHead → List Instr
begun_code p h =
    term_code p h.first ++ (term_code p h.last
    ++ (step_code p h.step ++ (instr p.line acts.SetUp ∷ variable_code p h.variable)))

-- Code ends with a trip that begins at a place: the variable grows, and the trip goes back; how
-- many instructions it has is filled in where it begins.
abbrev pub trip_ended : Places → Ref → ℕ → List Instr → List Instr
trip_ended p r start is =
    set ((is ++ grown_code p r)
    ++ instr p.line (acts.Back (short (length (is ++ grown_code p r) - start))) ∷ []) start
    (instr p.line (acts.CountDown (short (length (is ++ grown_code p r) - start))))

-- ---- arms

-- the body of an arm behind its condition; how many instructions are to be skipped behind it isn't
-- known yet
abbrev pub body_left_open : ℕ → List Instr → List Instr
body_left_open line body =
    instr line (acts.SkipUnless (short (length body + 1))) ∷ (body ++ instr line (acts.Skip 0) ∷ [])

-- Code ends with the body of an arm, which the skip at a place goes behind.
abbrev pub body_ended : ℕ → ℕ → List Instr → List Instr
body_ended line start is =
    set (is ++ instr line (acts.Skip 0) ∷ []) start
    (instr line (acts.SkipUnless (short (length is - start))))

-- the skips at these places are filled in: to the code's end
abbrev pub closed : ℕ → List Pending → List Instr → List Instr
closed last [] is = is
closed last (s ∷ ss) is =
    set (closed last ss is) s.place (instr s.line (acts.Skip (short (last - s.place - 1))))

-- code comes to other code when these skips are filled in
abbrev pub Ends : List Pending → List Instr → List Instr → Type 0
Ends ss is js = closed (length is) ss is ≡ js

-- ---- room, piece by piece

-- an item before others that want so much
abbrev pub item_room : PrintItem → ℕ → ℕ
item_room (value_item e) n = max (operands e) (n + 1)
item_room (text_item t) n = n

-- an arm before others that want so much
abbrev pub conditional_room : Option Term → ℕ → ℕ → ℕ
conditional_room None body n = max body n
conditional_room (Some c) body n = max (operands c) (max body n)

abbrev pub conditional_loops : Option Term → ℕ → ℕ → ℕ
conditional_loops None body n = max body n
conditional_loops (Some c) body n = max body n

abbrev pub arm_loops : Arm → ℕ → ℕ
arm_loops a n = conditional_loops a.condition (block_loops (plain_block a.body)) n

abbrev pub arm_room : Arm → ℕ → ℕ
arm_room a n = conditional_room a.condition (block_room (plain_block a.body)) n
