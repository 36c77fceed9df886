-- What is kept of a loop's dependences, in lists.
use Rattle.std.specs.Prelude.{◌≡◌, ◌↔◌, ◌<◌, ◌≤◌, ◌==◌, nat_lt, ℕ, Bool, true, ◌&&◌}
use Rattle.std.specs.Prelude.{◌||◌, List, [], ◌∷◌, length, map, Option, Some, None}
use Rattle.std.specs.List.{Contains}
use Rattle.dependence.specs.Kept.{Kept, most_events}
use Rattle.dependence.specs.Related.{relations as relations_in}
use Rattle.loop_tree.specs.Loops.{Loop}
use Rattle.placement.specs.Placement.{AreSources, comes_first, relations_of}
use Rattle.placement.specs.declared.analysis.Analysis.{Analysis}
use Rattle.placement.specs.declared.analysis.Kept as declared

-- a sink, its source and the distance
abbrev pub Triple : Type 0
Triple = ℕ × ℕ × ℕ

-- the sink, source and distance of what is kept
abbrev pub triple : declared.Kept → Triple
triple k = (k.sink, k.source, k.distance)

-- by the sink, then by the source and the distance
abbrev pub precedes : Triple → Triple → Bool
precedes a b = nat_lt a.0 b.0 || ((a.0 == b.0) && comes_first (a.1, a.2) (b.1, b.2))

-- each precedes the one behind it
abbrev pub are_sorted : List Triple → Bool
are_sorted [] = true
are_sorted (x ∷ []) = true
are_sorted (x ∷ y ∷ more) = precedes x y && are_sorted (y ∷ more)

-- The triples are those of what is kept, each once, in order.
pub record AreTriples (l : Loop) (triples : List Triple) : Type 0 where
  pub sorted : are_sorted triples ≡ true
  pub each : (s t d : ℕ) → Contains triples (t, s, d) ↔ Kept l s t d

-- What the analysis of a loop finds: its sources, of which there are at most 64, what is kept, and
-- the relations.
pub record AreAnalysed (l : Loop) (privates : List (List ℕ)) (a : Analysis) : Type 0 where
  pub sources : AreSources l a.sources.items
  pub few : length a.sources.items ≤ most_events
  pub triples : AreTriples l (map triple a.kept.items)
  pub relations : relations_in a.relations ≡ relations_of l privates l.references l.references

-- more statements are sources than there may be events
abbrev pub HasManySources : Loop → Type 0
HasManySources l = (ss : List ℕ) × AreSources l ss × (most_events < length ss)

-- What the analysis of a loop finds; none where there are too many sources.
abbrev pub IsFound : Loop → List (List ℕ) → Option Analysis → Type 0
IsFound l privates None = HasManySources l
IsFound l privates (Some a) = AreAnalysed l privates a
