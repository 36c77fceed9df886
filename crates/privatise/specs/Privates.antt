-- The private scalars of a loop, as a list of names.
use Rattle.std.specs.Prelude.{◌≡◌, ◌⊎◌, ℕ, List, [], ◌∷◌, map, filter}
use Rattle.ast.specs.Tree.{Ref}
use Rattle.loop_tree.specs.Loops.{Loop}
use Rattle.loop_tree.specs.Private.{Private}
use Rattle.privatise.specs.Flow.{is_never_early_at}
use Rattle.privatise.specs.declared.walk.Walk.{Walk}

-- Those of a list for which a claim holds, in order.
abbrev pub Picked : (Ref → Type 0) → List Ref → List Ref → Type 0
Picked P [] ps = ps ≡ []
Picked P (r ∷ rs) ps =
    (P r × (qs : List Ref) × (ps ≡ r ∷ qs) × Picked P rs qs) ⊎ ((P r → ⊥) × Picked P rs ps)

-- The names are those of the private scalars among those that the range gives values.
pub record ArePrivate (l : Loop) (names : List (List ℕ)) : Type 0 where
  pub scalars : List Ref
  pub picked : Picked (λ r. Private l r.cell) l.assigned scalars
  pub named : names ≡ map (λ (r : Ref). r.name) scalars

-- an account of the code: those that no path uses early, by what paths do
abbrev pub private_refs : List Walk → List Ref → List Ref
private_refs ws rs = filter (λ (r : Ref). is_never_early_at ws r.cell) rs

-- their names
abbrev pub private_names : List Walk → List Ref → List (List ℕ)
private_names ws rs = map (λ (r : Ref). r.name) (private_refs ws rs)
