-- Laws of the places of elements.
use Rattle.std.proofs.Common.{◌≡◌, ℕ, ◌+◌, ◌*◌, ◌<◌, List, [], ◌∷◌, Option, refl, arith}
use Rattle.std.specs.Prelude.{ℤ}
use Rattle.ast.specs.Symbols.{Extent, width, elements}
use Rattle.tree_run.specs.Steps.{Way, opening, room, step_on, stepped}

pub together : (p s o w : ℕ) → p < s → o < w → p + s * o < s * w
together p s o w h k = Prim.grind (arith)

pub room_kept : (w : Way) (x : ℤ) → room (stepped w x) ≡ room w
room_kept w x = by w.rest w.stride w.place
  where
    by : (ds : List Extent) (s : ℕ) (o : Option ℕ) → room (step_on ds s o x) ≡ s * elements ds
    by [] s o = refl
    by (d ∷ ds) s o = joined s (width d) (elements ds)
      where
        joined : (s w e : ℕ) → (s * w) * e ≡ s * (w * e)
        joined s w e = Prim.grind (arith)

pub first_room : (ds : List Extent) → room (opening ds) ≡ elements ds
first_room ds = omega arith
