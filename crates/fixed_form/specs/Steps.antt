-- Reading line by line: what the private functions answer. The laws of proofs/ join it to the
-- relations of `Lines`.
use Rattle.std.specs.Prelude.{ℕ, ◌+◌, Bool, false, not, nat_lt, nat_le, if◌then◌else◌, List}
use Rattle.std.specs.Prelude.{[], ◌∷◌, ◌++◌, Option, Some, None, length, Result, Ok, Err}
use Rattle.std.specs.Str.Parse.{digits_value}
use Rattle.ast.specs.Answers.{Break}
use Rattle.ast.specs.declared.rule.Rule.{Rule}
use Rattle.ast.specs.declared.rule.Rule.TheVariants.{StrangeByte, MalformedLabel, LooseContinuation}
use Rattle.ast.specs.declared.rule.Rule.TheVariants.{ManyContinuations, LabelledContinuation}
use Rattle.ast.specs.declared.rule.Rule.TheVariants.{ManyLines, NoEnd, LineBehindEnd}
use Rattle.fixed_form.specs.declared.label.LabelField.{LabelField}
use Rattle.fixed_form.specs.declared.label.LabelField.TheVariants.{Blank, Label, Malformed}
use Rattle.fixed_form.specs.declared.line.Class.{Class}
use Rattle.fixed_form.specs.declared.line.Class.TheVariants as class
use Rattle.fixed_form.specs.Limits.{longest_text, greatest_line}
use Rattle.fixed_form.specs.Line.{part_of, is_comment, is_readable, is_continuation}
use Rattle.fixed_form.specs.Line.{label_field, is_empty, is_label, is_end}
use Rattle.fixed_form.specs.Lines.{Entry}

-- what a label field without blanks is
abbrev pub field_of : List ℕ → LabelField
field_of field =
    if is_empty field then Blank
    else if is_label field then Label (digits_value 10 field) else Malformed

abbrev pub initial_class : LabelField → Class
initial_class Blank = class.Initial None
initial_class (Label n) = class.Initial (Some n)
initial_class Malformed = class.Refused MalformedLabel

abbrev pub continuation_class : LabelField → Class
continuation_class Blank = class.Continuation
continuation_class (Label n) = class.Refused LabelledContinuation
continuation_class Malformed = class.Refused LabelledContinuation

abbrev pub class_by : Bool → LabelField → Class
class_by continuation field = if continuation then continuation_class field else initial_class field

abbrev pub class_of : List ℕ → Class
class_of line =
    if is_comment line then class.Comment
    else if not (is_readable line) then class.Refused StrangeByte
    else class_by (is_continuation line) (field_of (label_field line))

infixl 10 ◌>>=◌
abbrev pub ◌>>=◌ : {A B : Type 0} → Result A Break → (A → Result B Break) → Result B Break
(Ok x) >>= f = f x
(Err e) >>= f = Err e

abbrev pub broken : {A : Type 0} → Rule → ℕ → Result A Break
broken rule line = Err (record { rule = rule; line = line })

-- a statement, longer by a line, where it hasn't its last line yet
abbrev pub longer : Entry → ℕ → List ℕ → Result Entry Break
longer e n line =
    if nat_le longest_text (length e.text) then broken ManyContinuations n
    else Ok (record e { text = e.text ++ part_of line })

-- statements of which the last one goes on
abbrev pub continued : List Entry → ℕ → List ℕ → Result (List Entry) Break
continued [] n line = broken LooseContinuation n
continued (e ∷ []) n line = longer e n line >>= λ f. Ok (f ∷ [])
continued (e ∷ d ∷ es) n line = continued (d ∷ es) n line >>= λ fs. Ok (e ∷ fs)

-- statements with one more, and whether it is END
abbrev pub begun : List Entry → Option ℕ → ℕ → List ℕ → Result (List Entry × Bool) Break
begun es label n line =
    Ok (es ++ record { label = label; line = n; text = part_of line } ∷ [], is_end (part_of line))

-- One more line, by its class: the statements by then, and whether END stands.
abbrev pub take_class : Class → List Entry → Bool → ℕ → List ℕ → Result (List Entry × Bool) Break
take_class class.Comment es ended n line = Ok (es, ended)
take_class (class.Refused rule) es ended n line = broken (if ended then LineBehindEnd else rule) n
take_class class.Continuation es ended n line =
    if ended then broken LineBehindEnd n else continued es n line >>= λ fs. Ok (fs, false)
take_class (class.Initial label) es ended n line =
    if ended then broken LineBehindEnd n else begun es label n line

abbrev pub take_line : List Entry → Bool → ℕ → List ℕ → Result (List Entry × Bool) Break
take_line es ended n line = take_class (class_of line) es ended n line

-- The lines after n others, which gave the statements es.
abbrev pub read_on : List Entry → ℕ → Bool → List (List ℕ) → Result (List Entry) Break
read_on es n ended [] = if ended then Ok es else broken NoEnd n
read_on es n ended (line ∷ lines) =
    (if nat_lt greatest_line (n + 1) then broken ManyLines (n + 1)
    else take_line es ended (n + 1) line) >>= λ s. read_on s.0 (n + 1) s.1 lines
