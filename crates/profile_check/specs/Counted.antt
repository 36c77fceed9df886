-- Elements counted as the check counts them, no further than one more than a program may have.
use Rattle.std.specs.Prelude.{ℕ, suc, ◌+◌, nat_lt, if◌then◌else◌, [], ◌∷◌}
use Rattle.ast.specs.Symbols.{most_elements}
use Rattle.profile_check.specs.Declarations.{Arrays, array_elements}

abbrev pub few_or_more : ℕ → ℕ
few_or_more n = if nat_lt most_elements n then suc most_elements else n

-- how many elements arrays have together with so many before them
abbrev pub counted : ℕ → Arrays → ℕ
counted total [] = total
counted total (a ∷ more) = counted (few_or_more (total + array_elements a.1)) more
