-- Accounts of the scanner, which the laws of proofs/ join to the integers of a record.
use Rattle.std.specs.Prelude.{ℕ, ℤ, suc, ◌+◌, ◌-◌, ◌*◌, Bool, true, false, ◌&&◌, nat_le}
use Rattle.std.specs.Prelude.{if◌then◌else◌, List, [], ◌∷◌, ◌++◌, length, Option, Some, None}
use Rattle.std.specs.Borrow.{Bor}
use Rattle.std.specs.Char.{is_ascii_digit}
use Rattle.ast.specs.Input.{cut_at, integer_in, is_blank, is_comma, is_empty}
use Rattle.values.specs.declared.scanner.Separator.{Separator}
use Rattle.values.specs.declared.scanner.Separator.TheVariants.{Comma, Blank}

abbrev pub passing : Separator → ℕ → Bool
passing Comma c = is_comma c
passing Blank c = is_blank c

-- how many characters stand before the first that passes a test
abbrev pub piece_length : (ℕ → Bool) → List ℕ → ℕ
piece_length test [] = 0
piece_length test (c ∷ cs) = if test c then 0 else suc (piece_length test cs)

-- the pieces of what is left of a text
abbrev pub pieces : Separator → Option (Bor (List ℕ)) → List (List ℕ)
pieces separator None = []
pieces separator (Some text) = cut_at (passing separator) text.now

-- the number that digits write behind those of n, if it is at most a limit
abbrev pub magnitude_from : ℕ → ℕ → List ℕ → Option ℕ
magnitude_from limit n [] = Some n
magnitude_from limit n (c ∷ cs) =
    if is_ascii_digit c
    then (if nat_le (n * 10 + (c - 48)) limit then magnitude_from limit (n * 10 + (c - 48)) cs
    else None)
    else None

abbrev pub magnitude_in : ℕ → List ℕ → Option ℕ
magnitude_in limit digits = if is_empty digits then None else magnitude_from limit 0 digits

-- goes on where something is there
abbrev pub if_some : {X Y : Type 0} → Option X → (X → Option Y) → Option Y
if_some None next = None
if_some (Some x) next = next x

-- integers with that of a word, if it is one, behind them; an empty word adds none
abbrev pub number_onto : List ℤ → Option ℤ → Option (List ℤ)
number_onto xs None = None
number_onto xs (Some x) = Some (xs ++ x ∷ [])

abbrev pub word_onto : List ℤ → List ℕ → Option (List ℤ)
word_onto xs w = if is_empty w then Some xs else number_onto xs (integer_in w)

abbrev pub words_onto : List ℤ → List (List ℕ) → Option (List ℤ)
words_onto xs [] = Some xs
words_onto xs (w ∷ ws) = if_some (word_onto xs w) (λ ys. words_onto ys ws)

-- the same of a part between commas, which has an integer
abbrev pub part_onto : Bool → List ℤ → List ℕ → Option (List ℤ)
part_onto beside_comma xs part =
    if_some (words_onto xs (cut_at is_blank part))
    (λ ys. if beside_comma && nat_le (length ys) (length xs) then None else Some ys)

abbrev pub parts_onto : Bool → List ℤ → List (List ℕ) → Option (List ℤ)
parts_onto beside_comma xs [] = Some xs
parts_onto beside_comma xs (p ∷ ps) =
    if_some (part_onto beside_comma xs p) (λ ys. parts_onto beside_comma ys ps)

-- what a call leaves, if it says that it went well
abbrev pub kept : Bool → List ℤ → Option (List ℤ)
kept true xs = Some xs
kept false xs = None
