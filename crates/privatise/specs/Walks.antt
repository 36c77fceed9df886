-- What paths do with a scalar, told by its cell.
use Rattle.std.specs.Prelude.{ℕ, Bool, ◌==◌, if◌then◌else◌, List, [], ◌∷◌}
use Rattle.loop_tree.specs.Paths.{Token, uses, defines, await, advance}
use Rattle.privatise.specs.declared.walk.Walk.{Walk}
use Rattle.privatise.specs.declared.walk.Walk.TheVariants.{Defined, Missed, Early}

-- one part after another: what comes after counts only where the scalar was missed
abbrev pub then_walk : Walk → Walk → Walk
then_walk Missed w = w
then_walk w v = w

-- one part or another
abbrev pub more : Walk → Walk → Walk
more Early w = Early
more Missed Early = Early
more Missed w = Missed
more Defined w = w

-- a part that does this, where it is of the scalar
abbrev pub if_so : Bool → Walk → Walk
if_so b w = if b then w else Missed

-- what one path does
abbrev pub walk : ℕ → List Token → Walk
walk c [] = Missed
walk c (uses r ∷ t) = then_walk (if_so (r.cell == c) Early) (walk c t)
walk c (defines r ∷ t) = then_walk (if_so (r.cell == c) Defined) (walk c t)
walk c (await e d ∷ t) = walk c t
walk c (advance e ∷ t) = walk c t
