-- The input of a program: records, cut as the lines of a source are. A record is well formed if it
-- holds, between optional blanks, any number of integers, two neighbours parted by blanks or by one
-- comma with optional blanks; a blank is a space or a tab (the profile).
use Rattle.std.specs.Prelude.{ℕ, ℤ, pos, ◌+◌, neg_ℤ, Bool, true, false, not}
use Rattle.std.specs.Prelude.{◌&&◌, ◌||◌, ◌==◌, if◌then◌else◌, List, [], ◌∷◌}
use Rattle.std.specs.Prelude.{◌++◌, map, Option, Some, None, Result, Ok, Err}
use Rattle.std.specs.List.{list_all, filter}
use Rattle.std.specs.Char.{is_ascii_digit}
use Rattle.std.specs.Str.Parse.{digits_value}
use Rattle.bstr.specs.Text.{lines_of, without_terminator}
use Rattle.ast.specs.Exact.{fits}
use Rattle.ast.specs.Results.{◌>>=◌}
use Rattle.ast.specs.declared.fault.Fault.{Fault}
use Rattle.ast.specs.declared.fault.Fault.TheVariants.{EndOfInput, BadInput}

-- the records of an input, without what ends their lines
abbrev pub records_of : List ℕ → List (List ℕ)
records_of input = map without_terminator (lines_of input)

abbrev pub is_blank : ℕ → Bool
is_blank c = c == 32 || c == 9

abbrev pub is_comma : ℕ → Bool
is_comma c = c == 44

-- a text cut at each character that passes a test
abbrev pub begun : ℕ → List (List ℕ) → List (List ℕ)
begun c [] = (c ∷ []) ∷ []
begun c (p ∷ ps) = (c ∷ p) ∷ ps

abbrev pub cut_at : (ℕ → Bool) → List ℕ → List (List ℕ)
cut_at test [] = [] ∷ []
cut_at test (c ∷ cs) = if test c then [] ∷ cut_at test cs else begun c (cut_at test cs)

abbrev pub is_empty : {X : Type 0} → List X → Bool
is_empty [] = true
is_empty (x ∷ xs) = false

-- the runs of characters between blanks
abbrev pub words : List ℕ → List (List ℕ)
words text = filter (λ w. not (is_empty w)) (cut_at is_blank text)

-- a sign or none, and digits: an integer of 64 bits
abbrev pub integer_of : (ℕ → ℤ) → List ℕ → Option ℤ
integer_of sign digits =
    if not (is_empty digits)
    && (list_all is_ascii_digit digits && fits (sign (digits_value 10 digits)))
    then Some (sign (digits_value 10 digits)) else None

-- the integer that a word spells, if it spells one of 64 bits
abbrev pub integer_in : List ℕ → Option ℤ
integer_in [] = None
integer_in (c ∷ cs) =
    if c == 45 then integer_of (λ n. neg_ℤ (pos n)) cs
    else if c == 43 then integer_of (λ n. pos n) cs
    else integer_of (λ n. pos n) (c ∷ cs)

abbrev pub with_first : Option ℤ → Option (List ℤ) → Option (List ℤ)
with_first (Some x) (Some xs) = Some (x ∷ xs)
with_first _ _ = None

-- the integers that words spell, if each spells one
abbrev pub integers_in : List (List ℕ) → Option (List ℤ)
integers_in [] = Some []
integers_in (w ∷ ws) = with_first (integer_in w) (integers_in ws)

abbrev pub all_words : List (List ℕ) → List (List ℕ)
all_words [] = []
all_words (p ∷ ps) = words p ++ all_words ps

-- where there are commas, an integer stands before and behind each
abbrev pub commas_part : List (List ℕ) → Bool
commas_part [] = true
commas_part (p ∷ []) = true
commas_part (p ∷ q ∷ ps) = list_all (λ part. not (is_empty (words part))) (p ∷ q ∷ ps)

-- the integers of a record, if it is well formed
unfoldable pub integers_of : List ℕ → Option (List ℤ)
integers_of text =
    if commas_part (cut_at is_comma text) then integers_in (all_words (cut_at is_comma text))
    else None

-- a record as it is taken: its integers, or BAD INPUT where it isn't well formed
abbrev pub well_formed : Option (List ℤ) → Result (List ℤ) Fault
well_formed (Some xs) = Ok xs
well_formed None = Err BadInput

-- a record is taken: its integers, and the records behind it
abbrev pub taken : List (List ℕ) → Result (List ℤ × List (List ℕ)) Fault
taken [] = Err EndOfInput
taken (r ∷ rs) = well_formed (integers_of r) >>= λ xs. Ok (xs, rs)

-- the first of these integers, or what is next where there is none
abbrev pub first_or : List ℤ → List (List ℕ) → Result (ℤ × List ℤ × List (List ℕ)) Fault
    → Result (ℤ × List ℤ × List (List ℕ)) Fault
first_or [] rs next = next
first_or (x ∷ xs) rs next = Ok (x, xs, rs)

-- the next integer, what is left of its record, and the records behind it: the first integer of the
-- next record that has one
abbrev pub from_records : List (List ℕ) → Result (ℤ × List ℤ × List (List ℕ)) Fault
from_records [] = Err EndOfInput
from_records (r ∷ rs) = well_formed (integers_of r) >>= λ xs. first_or xs rs (from_records rs)

-- the same, where these integers of a record are left
abbrev pub next_integer : List ℤ → List (List ℕ) → Result (ℤ × List ℤ × List (List ℕ)) Fault
next_integer xs rs = first_or xs rs (from_records rs)
