-- The DO ranges and IF blocks that are open after some statements, the innermost first.
use Rattle.std.specs.Prelude.{ℕ, Bool, true, false, ◌==◌, List, []}
use Rattle.std.specs.Prelude.{◌∷◌, Option, Some, None, if◌then◌else◌}
use Rattle.std.specs.List.{list_any}
use Rattle.ast.specs.Store.{same_name}
use Rattle.ast.specs.Tree.{Statement, Kind, do_loop, block_if, else_arm, end_if}

-- a DO range, by the label of its terminal statement and its DO variable; or an IF block, by
-- whether its ELSE stands
pub data Open : Type 0 where
  do_range : ℕ → List ℕ → Open
  if_block : Bool → Open

-- a statement with this label ends the innermost ranges that it is the terminal statement of
abbrev pub ended_by : ℕ → List Open → List Open
ended_by label [] = []
ended_by label (do_range terminal x ∷ opened) =
    if terminal == label then ended_by label opened else do_range terminal x ∷ opened
ended_by label (if_block is_last ∷ opened) = if_block is_last ∷ opened

-- the same of a statement with a label or without
abbrev pub ended : Option ℕ → List Open → List Open
ended None opened = opened
ended (Some label) opened = ended_by label opened

-- an END IF ends the innermost IF block, an ELSE is the last arm of it
abbrev pub without_block : List Open → List Open
without_block (if_block is_last ∷ opened) = opened
without_block opened = opened

abbrev pub with_else : List Open → List Open
with_else (if_block is_last ∷ opened) = if_block true ∷ opened
with_else opened = opened

-- what is open behind a statement, by what it opens and ends itself
abbrev pub begun : Kind → List Open → List Open
begun (do_loop h) opened = do_range h.terminal h.variable.name ∷ opened
begun (block_if c) opened = if_block false ∷ opened
begun else_arm opened = with_else opened
begun end_if opened = without_block opened
begun _ opened = opened

-- what is open after one more statement: its label is looked at before what it opens
abbrev pub after : List Open → Statement → List Open
after opened s = begun s.kind (ended s.label opened)

abbrev pub open_from : List Open → List Statement → List Open
open_from opened [] = opened
open_from opened (s ∷ ss) = open_from (after opened s) ss

-- what is open after some statements
abbrev pub open_after : List Statement → List Open
open_after front = open_from [] front

-- the DO variables of the ranges that are open
abbrev pub is_variable_of : List ℕ → Open → Bool
is_variable_of name (do_range terminal x) = same_name name x
is_variable_of name (if_block is_last) = false

-- a name is the DO variable of a range that is open
abbrev pub is_active : List Open → List ℕ → Bool
is_active opened name = list_any (is_variable_of name) opened
