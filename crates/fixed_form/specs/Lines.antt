-- The labelled statements of a source text, and the rules of its lines, by the standard (ANSI
-- X3.9-1978, 3.2 to 3.5) and the profile.
use Rattle.std.specs.Prelude.{◌≡◌, ◌⊎◌, ⊤, ℕ, ◌+◌, ◌<◌, Bool, true, false, not}
use Rattle.std.specs.Prelude.{◌&&◌, nat_lt, nat_le, if◌then◌else◌, List, [], ◌∷◌}
use Rattle.std.specs.Prelude.{◌++◌, Option, Some, None, length, take, reverse, map}
use Rattle.std.specs.List.{list_any, list_all, flat_map, prefix_len}
use Rattle.ast.specs.declared.rule.Rule.{Rule}
use Rattle.ast.specs.declared.rule.Rule.TheVariants.{StrangeByte, MalformedLabel, LooseContinuation}
use Rattle.ast.specs.declared.rule.Rule.TheVariants.{ManyContinuations, LabelledContinuation}
use Rattle.ast.specs.declared.rule.Rule.TheVariants.{ManyLines, NoEnd, LineBehindEnd}
use Rattle.bstr.specs.Text.{lines_of, without_terminator}
use Rattle.fixed_form.specs.Limits.{text_width, most_continuations, greatest_line}
use Rattle.fixed_form.specs.Line.{part_of, is_comment, is_readable, is_continuation, is_empty}
use Rattle.fixed_form.specs.Line.{is_label, label_field, label_of, is_end, is_end_line}

-- The lines of a text are cut at LF, and one CR before an LF is left out; what stands after the
-- last LF is a line if it isn't empty.
abbrev pub lines_in : List ℕ → List (List ℕ)
lines_in text = map without_terminator (lines_of text)

-- A card is a line that is no comment, with its number.
pub record Card : Type 0 where
  pub number : ℕ
  pub line : List ℕ

-- The cards among lines of which the first has number n.
abbrev pub cards_from : ℕ → List (List ℕ) → List Card
cards_from n [] = []
cards_from n (line ∷ lines) =
    if is_comment line then cards_from (n + 1) lines
    else record { number = n; line = line } ∷ cards_from (n + 1) lines

abbrev pub cards : List (List ℕ) → List Card
cards lines = cards_from 1 lines

abbrev pub continues : Card → Bool
continues c = is_continuation c.line

-- The check of a rule of lines: whether a line that stands after the lines of a front breaks it.
pub record Check : Type 0 where
  pub rule : Rule
  pub is_broken : List (List ℕ) → List ℕ → Bool

-- A text has at most 65,535 lines.
abbrev pub is_past_limit : List (List ℕ) → List ℕ → Bool
is_past_limit front line = nat_lt greatest_line (length front + 1)

-- After END only comments stand.
abbrev pub is_after_end : List (List ℕ) → List ℕ → Bool
is_after_end front line = not (is_comment line) && list_any is_end_line front

-- Columns 1 to 72 hold characters of the profile.
abbrev pub is_unreadable : List (List ℕ) → List ℕ → Bool
is_unreadable front line = not (is_comment line) && not (is_readable line)

-- Columns 1 to 5 of a continuation line are blank.
abbrev pub is_labelled_continuation : List (List ℕ) → List ℕ → Bool
is_labelled_continuation front line =
    not (is_comment line) && (is_continuation line && not (is_empty (label_field line)))

-- A continuation line has an initial line before it.
abbrev pub is_lone_continuation : List (List ℕ) → List ℕ → Bool
is_lone_continuation front line =
    not (is_comment line) && (is_continuation line && list_all continues (cards front))

-- An initial line has at most 19 continuation lines: they are counted back to it, comments aside.
abbrev pub is_twentieth_continuation : List (List ℕ) → List ℕ → Bool
is_twentieth_continuation front line =
    not (is_comment line) && (is_continuation line
    && nat_le most_continuations (prefix_len continues (reverse (cards front))))

-- Columns 1 to 5 of an initial line are blank or hold a label.
abbrev pub is_badly_labelled : List (List ℕ) → List ℕ → Bool
is_badly_labelled front line =
    not (is_comment line) && (not (is_continuation line)
    && (not (is_empty (label_field line)) && not (is_label (label_field line))))

-- The checks in the order in which they count on one line.
abbrev pub checks : List Check
checks = record { rule = ManyLines; is_broken = is_past_limit }
    ∷ record { rule = LineBehindEnd; is_broken = is_after_end }
    ∷ record { rule = StrangeByte; is_broken = is_unreadable }
    ∷ record { rule = LabelledContinuation; is_broken = is_labelled_continuation }
    ∷ record { rule = LooseContinuation; is_broken = is_lone_continuation }
    ∷ record { rule = ManyContinuations; is_broken = is_twentieth_continuation }
    ∷ record { rule = MalformedLabel; is_broken = is_badly_labelled }
    ∷ []

-- The first of the rules that a line breaks, if it breaks one.
abbrev pub first_broken : List Check → List (List ℕ) → List ℕ → Option Rule
first_broken [] front line = None
first_broken (c ∷ cs) front line =
    if c.is_broken front line then Some c.rule else first_broken cs front line

-- No line breaks a rule.
pub record AreUnbroken (lines : List (List ℕ)) : Type 0 where
  pub each : (front : List (List ℕ)) (line : List ℕ) (back : List (List ℕ))
      → lines ≡ front ++ line ∷ back → first_broken checks front line ≡ None

-- The cards of a statement: an initial line, and the continuation lines that follow it.
pub record Group : Type 0 where
  pub head : Card
  pub others : List Card

abbrev pub cards_of : Group → List Card
cards_of g = g.head ∷ g.others

abbrev pub is_statement : Group → Bool
is_statement g = not (continues g.head) && list_all continues g.others

-- The cards, in their order, are those of the statements.
pub record AreGrouped (cards : List Card) (groups : List Group) : Type 0 where
  pub whole : cards ≡ flat_map cards_of groups
  pub each : list_all is_statement groups ≡ true

-- A statement with its label, the number of its initial line, and its text.
pub record Entry : Type 0 where
  pub label : Option ℕ
  pub line : ℕ
  pub text : List ℕ

-- The text of a statement is columns 7 to 72 of its lines, joined.
abbrev pub statement_of : Group → Entry
statement_of g = record {
  label = label_of g.head.line;
  line = g.head.number;
  text = flat_map (λ c. part_of c.line) (cards_of g);
}

-- Lines that break no rule and have an END line, with their statements.
pub record HaveStatements (lines : List (List ℕ)) (statements : List Entry) : Type 0 where
  pub unbroken : AreUnbroken lines
  pub ended : list_any is_end_line lines ≡ true
  pub groups : List Group
  pub grouped : AreGrouped (cards lines) groups
  pub whole : statements ≡ map statement_of groups

-- Line `at` is the first that breaks a rule, and that rule is the first that it breaks.
pub record BreakFirst (lines : List (List ℕ)) (rule : Rule) (at : ℕ) : Type 0 where
  pub front : List (List ℕ)
  pub line : List ℕ
  pub back : List (List ℕ)
  pub cut : lines ≡ front ++ line ∷ back
  pub unbroken : AreUnbroken front
  pub broken : first_broken checks front line ≡ Some rule
  pub place : at ≡ length front + 1

-- Without an END line, where no other rule is broken, the refusal is at the number of lines.
pub record LackEnd (lines : List (List ℕ)) (rule : Rule) (at : ℕ) : Type 0 where
  pub unbroken : AreUnbroken lines
  pub endless : list_any is_end_line lines ≡ false
  pub lack : rule ≡ NoEnd
  pub place : at ≡ length lines

-- The text has these labelled statements, and no line rule is broken.
abbrev pub Lines : List ℕ → List Entry → Type 0
Lines text statements = HaveStatements (lines_in text) statements

-- The first line rule that the text breaks is that one, at that line.
abbrev pub Broken : List ℕ → Rule → ℕ → Type 0
Broken text rule at = BreakFirst (lines_in text) rule at ⊎ LackEnd (lines_in text) rule at

-- END is said by the initial line alone: by the first 66 characters of a statement's text.
abbrev pub is_end_statement : Entry → Bool
is_end_statement e = is_end (take text_width e.text)

-- The last of the statements is END, on one line, and no other is.
pub record AreEnded (statements : List Entry) : Type 0 where
  pub front : List Entry
  pub last : Entry
  pub cut : statements ≡ front ++ last ∷ []
  pub end : is_end last.text ≡ true
  pub width : length last.text ≡ text_width
  pub others : list_any is_end_statement front ≡ false

-- Each statement stands on a later line than the one before, the first one after line n.
abbrev pub AreRising : ℕ → List Entry → Type 0
AreRising n [] = ⊤
AreRising n (e ∷ es) = (n < e.line) × AreRising e.line es

-- What the statements of a text are like, beside what is so of every labelled statement.
pub record AreShaped (statements : List Entry) : Type 0 where
  pub ended : AreEnded statements
  pub rising : AreRising 0 statements
