-- The rules on the order of statements, on labels, DO ranges and IF blocks, each a test of a
-- statement after the statements of a front.
use Rattle.std.specs.Prelude.{◌≡◌, ℕ, Bool, true, false, not, ◌&&◌, ◌||◌, ◌==◌}
use Rattle.std.specs.Prelude.{if◌then◌else◌, List, [], ◌∷◌, ◌++◌, Option, Some, None}
use Rattle.std.specs.List.{list_any}
use Rattle.ast.specs.Tree.{Statement, Kind, program, integer, dimension}
use Rattle.ast.specs.Tree.{parameters, assign, do_loop, go_on, block_if, else_if}
use Rattle.ast.specs.Tree.{else_arm, end_if, logical_if, print, read, stop, end}
use Rattle.ast.specs.declared.rule.Rule.{Rule}
use Rattle.ast.specs.declared.rule.Rule.TheVariants.{OutOfOrder, OpenLoop, WrongTerminal}
use Rattle.ast.specs.declared.rule.Rule.TheVariants.{CrossedBlocks, RepeatedLabel}
use Rattle.structure.specs.Open.{Open, do_range, if_block, open_after}

-- the check of a rule
pub record Check : Type 0 where
  pub rule : Rule
  pub is_broken : List Statement → Statement → Bool

abbrev pub is_empty : {X : Type 0} → List X → Bool
is_empty [] = true
is_empty (x ∷ xs) = false

-- ---- `OutOfOrder`: PROGRAM that isn't the first statement, or a declaration after an executable
-- statement

abbrev pub is_program : Kind → Bool
is_program (program x) = true
is_program _ = false

-- INTEGER, DIMENSION and PARAMETER
abbrev pub is_declaration : Kind → Bool
is_declaration (integer ds) = true
is_declaration (dimension ds) = true
is_declaration (parameters ds) = true
is_declaration _ = false

-- any other statement
abbrev pub is_executable : Kind → Bool
is_executable k = not (is_program k) && not (is_declaration k)

-- `OutOfOrder`: a PROGRAM behind other statements, or a declaration behind an executable one.
abbrev pub is_out_of_order : List Statement → Statement → Bool
is_out_of_order front s =
    (is_program s.kind && not (is_empty front))
    || (is_declaration s.kind && list_any (λ f. is_executable f.kind) front)

-- ---- labels of terminal statements

abbrev pub is_end : Kind → Bool
is_end end = true
is_end _ = false

-- a range of the label, and one of another label
abbrev pub is_range_of : ℕ → Open → Bool
is_range_of label (do_range terminal x) = terminal == label
is_range_of label (if_block is_last) = false

abbrev pub is_other_range : ℕ → Open → Bool
is_other_range label (do_range terminal x) = not (terminal == label)
is_other_range label (if_block is_last) = false

abbrev pub is_block : Open → Bool
is_block (do_range terminal x) = false
is_block (if_block is_last) = true

-- whether a range of the label is open around a structure that passes a test
abbrev pub is_around : (Open → Bool) → ℕ → List Open → Bool
is_around test label [] = false
is_around test label (o ∷ opened) =
    (test o && list_any (is_range_of label) opened) || is_around test label opened

-- a test of a label and of what is open; a statement without a label passes none, nor does END
abbrev pub is_some_and : (ℕ → Bool) → Option ℕ → Bool
is_some_and test None = false
is_some_and test (Some label) = test label

abbrev pub by_label : (ℕ → List Open → Bool) → List Open → Statement → Bool
by_label test opened s = not (is_end s.kind) && is_some_and (λ label. test label opened) s.label

-- ---- `OpenLoop`: a statement ends an outer range while an inner one is open, or END meets an open
-- range

abbrev pub begins_with : (Open → Bool) → List Open → Bool
begins_with test [] = false
begins_with test (o ∷ opened) = test o

abbrev pub is_any_range : Open → Bool
is_any_range o = not (is_block o)

-- `OpenLoop`: the label is that of a range around another range that is open, or END stands where
-- the innermost open structure is a range.
abbrev pub crosses : List Open → Statement → Bool
crosses opened s =
    by_label (λ label around. is_around (is_other_range label) label around) opened s
    || (is_end s.kind && begins_with is_any_range opened)

-- ---- `WrongTerminal`: a terminal statement that is a DO, a part of a block IF or a STOP

abbrev pub may_not_end_a_range : Kind → Bool
may_not_end_a_range (do_loop h) = true
may_not_end_a_range (block_if c) = true
may_not_end_a_range (else_if c) = true
may_not_end_a_range else_arm = true
may_not_end_a_range end_if = true
may_not_end_a_range stop = true
may_not_end_a_range _ = false

-- `WrongTerminal`: the label is that of an open range, and a statement of this kind may not end
-- one.
abbrev pub ends_wrongly : List Open → Statement → Bool
ends_wrongly opened s =
    may_not_end_a_range s.kind
    && by_label (λ label around. list_any (is_range_of label) around) opened s

-- ---- `CrossedBlocks`: parts of IF blocks where they may not stand

-- an arm may follow where the innermost open structure is an IF block whose ELSE doesn't stand
abbrev pub may_go_on : Open → Bool
may_go_on (do_range terminal x) = false
may_go_on (if_block is_last) = not is_last

-- ELSE IF, ELSE and END IF without their IF block innermost, or an arm behind ELSE; END in a block
abbrev pub is_misplaced_arm : Kind → List Open → Bool
is_misplaced_arm (else_if c) opened = not (begins_with may_go_on opened)
is_misplaced_arm else_arm opened = not (begins_with may_go_on opened)
is_misplaced_arm end_if opened = not (begins_with is_block opened)
is_misplaced_arm end opened = begins_with is_block opened
is_misplaced_arm _ opened = false

-- the statements that may stand in a logical IF
abbrev pub may_stand_in_if : Kind → Bool
may_stand_in_if (assign a e) = true
may_stand_in_if go_on = true
may_stand_in_if (print items) = true
may_stand_in_if (read elements) = true
may_stand_in_if stop = true
may_stand_in_if _ = false

abbrev pub holds_wrong_statement : Kind → Bool
holds_wrong_statement (logical_if c k) = not (may_stand_in_if k)
holds_wrong_statement _ = false

-- `CrossedBlocks`: such a part is misplaced, a terminal statement stands in an IF block of its
-- range, or a logical IF holds another statement.
abbrev pub breaks_blocks : List Open → Statement → Bool
breaks_blocks opened s =
    is_misplaced_arm s.kind opened
    || (by_label (λ label around. is_around is_block label around) opened s
    || holds_wrong_statement s.kind)

-- ---- `RepeatedLabel`: a label that stands before

-- a statement has this label
abbrev pub has_label : ℕ → Statement → Bool
has_label label s = is_some_and (λ l. label == l) s.label

-- `RepeatedLabel`: a statement before has this one's label.
abbrev pub is_label_again : List Statement → Statement → Bool
is_label_again front s = is_some_and (λ label. list_any (has_label label) front) s.label

-- the checks in the order of their rules' numbers
abbrev pub checks : List Check
checks = record { rule = OutOfOrder; is_broken = is_out_of_order }
    ∷ record { rule = OpenLoop; is_broken = λ front s. crosses (open_after front) s }
    ∷ record { rule = WrongTerminal; is_broken = λ front s. ends_wrongly (open_after front) s }
    ∷ record { rule = CrossedBlocks; is_broken = λ front s. breaks_blocks (open_after front) s }
    ∷ record { rule = RepeatedLabel; is_broken = is_label_again }
    ∷ []

-- the rule of the lowest number that a statement breaks
abbrev pub lowest_broken : List Check → List Statement → Statement → Option Rule
lowest_broken [] front s = None
lowest_broken (c ∷ cs) front s =
    if c.is_broken front s then Some c.rule else lowest_broken cs front s

-- the statements break none of the rules
pub record Keep (checks : List Check) (ss : List Statement) : Type 0 where
  pub each : (front : List Statement) (s : Statement) (back : List Statement)
      → ss ≡ front ++ s ∷ back → lowest_broken checks front s ≡ None

-- the first statement that breaks a rule stands at the line, and the lowest rule that it breaks is
-- the one
pub record BreakFirst (checks : List Check) (ss : List Statement) (rule : Rule)
    (line : ℕ) : Type 0 where
  pub front : List Statement
  pub statement : Statement
  pub back : List Statement
  pub cut : ss ≡ front ++ statement ∷ back
  pub kept : Keep checks front
  pub broken : lowest_broken checks front statement ≡ Some rule
  pub place : line ≡ statement.line
