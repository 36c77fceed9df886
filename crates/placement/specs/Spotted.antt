-- An account of the code: what a statement awaits, in lists.
use Rattle.std.specs.Prelude.{◌==◌, ◌+◌, nat_lt, ℕ, List, [], ◌∷◌, ◌++◌, if◌then◌else◌}
use Rattle.placement.specs.Analysed.{Triple}

-- the number of a source's event, where that of the first has the number k
abbrev pub event_of : ℕ → List ℕ → ℕ → ℕ
event_of k [] s = k
event_of k (x ∷ xs) s = if nat_lt x s then event_of (k + 1) xs s else k

-- what statement t awaits, of what is kept: events with distances
abbrev pub awaits_of : List ℕ → ℕ → List Triple → List (ℕ × ℕ)
awaits_of sources t [] = []
awaits_of sources t (k ∷ ks) =
    (if k.0 == t then (event_of 1 sources k.1, k.2) ∷ [] else []) ++ awaits_of sources t ks
