-- An account of the code: what paths have done with scalars, in a list by their cells, from 0 on.
use Rattle.std.specs.Prelude.{ℕ, zero, suc, List, [], ◌∷◌, Option, Some, None, slice_get}
use Rattle.privatise.specs.Walks.{then_walk, more}
use Rattle.privatise.specs.declared.walk.Walk.{Walk}
use Rattle.privatise.specs.declared.walk.Walk.TheVariants.{Defined, Early}

abbrev pub or_early : Option Walk → Walk
or_early None = Early
or_early (Some w) = w

-- a cell beyond the list counts as used early
abbrev pub walk_at : List Walk → ℕ → Walk
walk_at ws c = or_early (slice_get ws c)

-- the paths go on, and do this with the scalar of a cell
abbrev pub gone_on : List Walk → ℕ → Walk → List Walk
gone_on [] c w = []
gone_on (v ∷ vs) zero w = then_walk v w ∷ vs
gone_on (v ∷ vs) (suc c) w = v ∷ gone_on vs c w

-- no path goes on
abbrev pub stopped : List Walk → List Walk
stopped [] = []
stopped (w ∷ ws) = then_walk w Defined ∷ stopped ws

-- other paths come to the same place
abbrev pub joined : List Walk → List Walk → List Walk
joined [] ws = []
joined (v ∷ vs) [] = more v Early ∷ joined vs []
joined (v ∷ vs) (w ∷ ws) = more v w ∷ joined vs ws
