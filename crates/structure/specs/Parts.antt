-- What a statement opens or ends, its label aside.
use Rattle.std.specs.Prelude.{ℕ, List, ◌∷◌, false}
use Rattle.ast.specs.Tree.{Kind, do_loop, block_if, else_arm, end_if}
use Rattle.structure.specs.Open.{Open, do_range, if_block, with_else, without_block}

-- a DO, by the label of its terminal statement and its DO variable, or a part of an IF block
pub data Part : Type 0 where
  do_part : ℕ → List ℕ → Part
  if_part : Part
  else_part : Part
  end_if_part : Part
  no_part : Part

abbrev pub part_of : Kind → Part
part_of (do_loop h) = do_part h.terminal h.variable.name
part_of (block_if c) = if_part
part_of else_arm = else_part
part_of end_if = end_if_part
part_of _ = no_part

abbrev pub begun_by : Part → List Open → List Open
begun_by (do_part terminal x) opened = do_range terminal x ∷ opened
begun_by if_part opened = if_block false ∷ opened
begun_by else_part opened = with_else opened
begun_by end_if_part opened = without_block opened
begun_by no_part opened = opened
