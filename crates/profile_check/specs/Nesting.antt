-- Nesting statement by statement: an account of the code, which the laws of proofs/ join to `Lays`.
use Rattle.std.specs.Prelude.{ℕ, Bool, true, false, ◌==◌, if◌then◌else◌}
use Rattle.std.specs.Prelude.{List, [], ◌∷◌, ◌++◌, Option, Some, None}
use Rattle.ast.specs.Alone.{alone}
use Rattle.ast.specs.Tree.{Term, Statement, Kind, DoHead, do_loop, block_if, else_if}
use Rattle.ast.specs.Tree.{else_arm, end_if, logical_if, Node, plain, loop, choose}
use Rattle.ast.specs.Tree.{no_nodes, then_node, block, Arm, arms, no_arms, then_arm}

-- An open structure with the nodes that stand before it: a range with the line of its DO and what
-- that says; or a block with the arms that are done, and the line and the condition of the arm that
-- isn't.
pub data Frame : Type 0 where
  in_range : ℕ → DoHead → List Node → Frame
  in_block : List Arm → ℕ → Option Term → List Node → Frame

-- the open structures, the innermost first, and the nodes in the innermost
pub record Nest : Type 0 where
  pub frames : List Frame
  pub nodes : List Node

abbrev pub nest : List Frame → List Node → Nest
nest frames nodes = record { frames = frames; nodes = nodes }

abbrev pub arm_of : ℕ → Option Term → List Node → Arm
arm_of line condition nodes = record { line = line; condition = condition; body = block nodes }

abbrev pub begins_with_block : List Frame → Bool
begins_with_block (in_block done l c before ∷ frames) = true
begins_with_block frames = false

-- another arm of the innermost block
abbrev pub next_arm : ℕ → Option Term → List Frame → List Node → Nest
next_arm line condition (in_block done l c before ∷ frames) nodes =
    nest (in_block (done ++ arm_of l c nodes ∷ []) line condition before ∷ frames) []
next_arm line condition frames nodes = nest frames nodes

-- the end of the innermost block
abbrev pub end_block : List Frame → List Node → Nest
end_block (in_block done l c before ∷ frames) nodes =
    nest frames (before ++ choose (arms (done ++ arm_of l c nodes ∷ [])) ∷ [])
end_block frames nodes = nest frames nodes

abbrev pub begins_with_range_of : ℕ → List Frame → Bool
begins_with_range_of label (in_range l h before ∷ frames) = h.terminal == label
begins_with_range_of label frames = false

-- the end of the innermost ranges of a label
abbrev pub end_ranges : ℕ → List Frame → List Node → Nest
end_ranges label [] nodes = nest [] nodes
end_ranges label (in_range l h before ∷ frames) nodes =
    if h.terminal == label then end_ranges label frames (before ++ loop l h (block nodes) ∷ [])
    else nest (in_range l h before ∷ frames) nodes
end_ranges label (in_block done l c before ∷ frames) nodes =
    nest (in_block done l c before ∷ frames) nodes

abbrev pub ended : Option ℕ → List Frame → List Node → Nest
ended None frames nodes = nest frames nodes
ended (Some label) frames nodes = end_ranges label frames nodes

-- the node of a statement that holds no others, and of a logical IF
abbrev pub plain_node : ℕ → Option ℕ → Kind → Node
plain_node line label k = plain (record { line = line; label = label; kind = alone k })

abbrev pub logical_node : ℕ → Term → Kind → Node
logical_node line c k =
    choose (then_arm line (Some c) (then_node (plain_node line None k) no_nodes) no_arms)

abbrev pub own_node : Statement → Kind → Node
own_node s (logical_if c k) = logical_node s.line c k
own_node s k = plain_node s.line s.label k

-- one more statement
abbrev pub with_kind : Nest → Statement → Kind → Nest
with_kind n s (do_loop h) = nest (in_range s.line h n.nodes ∷ n.frames) []
with_kind n s (block_if c) = nest (in_block [] s.line (Some c) n.nodes ∷ n.frames) []
with_kind n s (else_if c) = next_arm s.line (Some c) n.frames n.nodes
with_kind n s else_arm = next_arm s.line None n.frames n.nodes
with_kind n s end_if = end_block n.frames n.nodes
with_kind n s k = ended s.label n.frames (n.nodes ++ own_node s k ∷ [])

-- one more statement, by what it does
abbrev pub with_statement : Nest → Statement → Nest
with_statement n s = with_kind n s s.kind

abbrev pub nested_from : Nest → List Statement → Nest
nested_from n [] = n
nested_from n (s ∷ ss) = nested_from (with_statement n s) ss

-- what statements nest to, from the beginning
abbrev pub nested : List Statement → Nest
nested ss = nested_from (nest [] []) ss
