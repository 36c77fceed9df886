-- Real constants, which the language lacks. Digits are one where a full stop follows that begins
-- no operator, or E or D, an optional sign and a digit; a full stop and a digit are one too.
use Rattle.std.specs.Prelude.{ℕ, Bool, false, not, ◌&&◌, ◌||◌, ◌==◌, nat_eq}
use Rattle.std.specs.Prelude.{if◌then◌else◌, List, [], ◌∷◌, drop, codes}
use Rattle.std.specs.List.{prefix_len, starts_with, list_any}
use Rattle.expressions.specs.Characters.{is_digit, begins_with, begins_digit}

abbrev pub begins_any : List (List ℕ) → List ℕ → Bool
begins_any words t = list_any (λ w. starts_with nat_eq t w) words

abbrev pub operators : List (List ℕ)
operators =
    codes ".EQV." ∷ codes ".NEQV." ∷ codes ".OR." ∷ codes ".AND." ∷ codes ".NOT."
    ∷ codes ".LT." ∷ codes ".LE." ∷ codes ".EQ." ∷ codes ".NE." ∷ codes ".GT." ∷ codes ".GE." ∷ []

abbrev pub without_sign : List ℕ → List ℕ
without_sign [] = []
without_sign (c ∷ cs) = if (c == 43) || (c == 45) then cs else c ∷ cs

unfoldable pub begins_operator : List ℕ → Bool
begins_operator t = begins_any operators t

-- E or D, an optional sign and a digit
abbrev pub begins_exponent : List ℕ → Bool
begins_exponent [] = false
begins_exponent (c ∷ cs) = ((c == 69) || (c == 68)) && begins_digit (without_sign cs)

-- whether the digits before this text are a real constant
abbrev pub continues_real : List ℕ → Bool
continues_real t = (begins_with 46 t && not (begins_operator t)) || begins_exponent t

abbrev pub begins_fraction : List ℕ → Bool
begins_fraction [] = false
begins_fraction (c ∷ cs) = (c == 46) && begins_digit cs

-- whether a real constant stands at the beginning
abbrev pub begins_real : List ℕ → Bool
begins_real t =
    begins_fraction t || (begins_digit t && continues_real (drop (prefix_len is_digit t) t))
