-- How many values each name of a store has.
use Rattle.std.specs.Prelude.{ℕ, ℤ, List, map, length}

abbrev pub shapes_in : List (List ℕ × List ℤ) → List (List ℕ × ℕ)
shapes_in cs = map (λ c. (c.0, length c.1)) cs
