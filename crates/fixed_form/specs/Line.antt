-- One line of a source: its columns, and what they say. By the standard (ANSI X3.9-1978, 3.1 to
-- 3.4) where nothing else is said.
use Rattle.std.specs.Prelude.{ℕ, zero, suc, ◌+◌, ◌-◌, Bool, true, false, not, ◌&&◌, ◌||◌}
use Rattle.std.specs.Prelude.{nat_eq, nat_lt, nat_le, ◌==◌, if◌then◌else◌, List, []}
use Rattle.std.specs.Prelude.{◌∷◌, Option, Some, None, drop, map, slice_index_or, codes}
use Rattle.std.specs.List.{filter, list_all, list_any}
use Rattle.std.specs.Char.{is_ascii_digit, to_ascii_uppercase}
use Rattle.std.specs.Cmp.Lexicographic.{pointwise}
use Rattle.std.specs.Str.Parse.{digits_value}
use Rattle.fixed_form.specs.Limits.{last_label_column, continuation_column}
use Rattle.fixed_form.specs.Limits.{first_column, last_column}

-- the code of the blank
abbrev pub blank : ℕ
blank = 32

abbrev pub is_blank : ℕ → Bool
is_blank c = c == blank

-- The character is one of these.
abbrev pub is_among : List ℕ → ℕ → Bool
is_among cs c = list_any (λ d. c == d) cs

-- The first n characters, where a shorter text counts as filled with blanks.
unfoldable pub filled : ℕ → List ℕ → List ℕ
filled zero cs = []
filled (suc n) [] = blank ∷ filled n []
filled (suc n) (c ∷ cs) = c ∷ filled n cs

-- The columns of a line from the first to the last; the first column of a line is 1.
unfoldable pub columns : ℕ → ℕ → List ℕ → List ℕ
columns first last line = filled (last + 1 - first) (drop (first - 1) line)

-- The character in one column.
abbrev pub column : ℕ → List ℕ → ℕ
column n line = slice_index_or line (n - 1) blank

abbrev pub without_blanks : List ℕ → List ℕ
without_blanks cs = filter (λ c. not (is_blank c)) cs

-- A comment has C, c (by the profile) or * in column 1, or blanks alone in columns 1 to 72.
abbrev pub is_comment : List ℕ → Bool
is_comment line =
    is_among (codes "Cc*") (column 1 line) || list_all is_blank (columns 1 last_column line)

-- The profile's characters are those of ASCII that print.
abbrev pub is_printable : ℕ → Bool
is_printable c = nat_le 32 c && nat_le c 126

abbrev pub is_readable : List ℕ → Bool
is_readable line = list_all is_printable (columns 1 last_column line)

-- A line that is no comment is a continuation line where column 6 is neither blank nor 0, and an
-- initial line elsewhere.
abbrev pub is_continuation : List ℕ → Bool
is_continuation line = not (is_among (codes " 0") (column continuation_column line))

-- The part of a statement that stands on a line.
abbrev pub part_of : List ℕ → List ℕ
part_of line = columns first_column last_column line

-- What stands in columns 1 to 5, where blanks mean nothing.
abbrev pub label_field : List ℕ → List ℕ
label_field line = without_blanks (columns 1 last_label_column line)

abbrev pub is_empty : List ℕ → Bool
is_empty [] = true
is_empty (c ∷ cs) = false

-- A label is one to five digits, not all of them zero.
abbrev pub is_label : List ℕ → Bool
is_label field = list_all is_ascii_digit field && nat_lt 0 (digits_value 10 field)

-- the label of a line, if its label field has one
abbrev pub label_of : List ℕ → Option ℕ
label_of line =
    if is_label (label_field line) then Some (digits_value 10 (label_field line)) else None

-- The letters END, blanks and case aside (case by the profile).
abbrev pub is_end : List ℕ → Bool
is_end text = pointwise nat_eq (map to_ascii_uppercase (without_blanks text)) (codes "END")

-- An END line is an initial line whose columns 7 to 72 are END (by the profile).
abbrev pub is_end_line : List ℕ → Bool
is_end_line line = not (is_comment line) && (not (is_continuation line) && is_end (part_of line))
