-- The limits of the fixed form, by the standard (ANSI X3.9-1978, 3.1 to 3.4); the greatest line is
-- the profile's.
use Rattle.std.specs.Prelude.{ℕ, ◌+◌, ◌-◌, ◌*◌, Bool, true, ◌&&◌, nat_le, Option, Some, None}

-- A label stands in columns 1 to 5.
abbrev pub last_label_column : ℕ
last_label_column = 5

-- Column 6 tells a continuation line.
abbrev pub continuation_column : ℕ
continuation_column = 6

-- A statement stands in columns 7 to 72.
abbrev pub first_column : ℕ
first_column = 7

abbrev pub last_column : ℕ
last_column = 72

-- the characters of a statement on one line
abbrev pub text_width : ℕ
text_width = last_column + 1 - first_column

-- A label has one to five digits.
abbrev pub greatest_label : ℕ
greatest_label = 99999

-- An initial line has at most 19 continuation lines.
abbrev pub most_continuations : ℕ
most_continuations = 19

-- the characters of a statement on an initial line and 19 continuation lines
abbrev pub longest_text : ℕ
longest_text = text_width * (1 + most_continuations)

-- A text has at most 65,535 lines.
abbrev pub greatest_line : ℕ
greatest_line = 65535

-- No label, or one that five digits can show and that isn't zero.
abbrev pub is_label_or_none : Option ℕ → Bool
is_label_or_none None = true
is_label_or_none (Some n) = nat_le 1 n && nat_le n greatest_label
