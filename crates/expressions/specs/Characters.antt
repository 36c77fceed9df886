-- The characters of a text that is folded to upper case and without blanks.
use Rattle.std.specs.Prelude.{ℕ, ◌+◌, ◌-◌, ◌*◌, ◌^◌, Bool, false, ◌&&◌, ◌||◌, nat_eq, nat_le, ◌==◌}
use Rattle.std.specs.Prelude.{if◌then◌else◌, List, [], ◌∷◌, length, drop, Option, Some, None}
use Rattle.std.specs.List.{starts_with}

abbrev pub is_digit : ℕ → Bool
is_digit c = nat_le 48 c && nat_le c 57

abbrev pub is_letter : ℕ → Bool
is_letter c = nat_le 65 c && nat_le c 90

abbrev pub is_alphanumeric : ℕ → Bool
is_alphanumeric c = is_letter c || is_digit c

-- whether a text begins with a mark, a digit, a letter
abbrev pub begins_with : ℕ → List ℕ → Bool
begins_with mark [] = false
begins_with mark (c ∷ cs) = c == mark

abbrev pub begins_digit : List ℕ → Bool
begins_digit [] = false
begins_digit (c ∷ cs) = is_digit c

abbrev pub begins_letter : List ℕ → Bool
begins_letter [] = false
begins_letter (c ∷ cs) = is_letter c

-- the text after a word, where that stands first
abbrev pub after : List ℕ → List ℕ → Option (List ℕ)
after word t = if starts_with nat_eq t word then Some (drop (length word) t) else None

-- the whole number that digits write, after digits that write n
abbrev pub value_after : ℕ → List ℕ → ℕ
value_after n [] = n
value_after n (d ∷ ds) = value_after (10 * n + (d - 48)) ds

-- the whole number that digits write
abbrev pub value : List ℕ → ℕ
value ds = value_after 0 ds

-- what the profile allows: the least constant that is too large, the longest name
abbrev pub constant_limit : ℕ
constant_limit = 2 ^ 63

abbrev pub longest_name : ℕ
longest_name = 6
