-- The dependences that a picture has arrows of.
use Rattle.std.specs.Prelude.{◌≡◌, ◌-◌, ℕ, List, get_or, map}
use Rattle.arrows.specs.declared.picture.Arrow.{Arrow}

-- the event, the distance and the sink's line
abbrev pub dependence : Arrow → ℕ × ℕ × ℕ
dependence a = (a.event, a.distance, a.sink_line)

-- by the lines of the events' sources, that of an event's; the first event has the number 1
abbrev pub source_line : List ℕ → ℕ → ℕ
source_line sources event = get_or sources (event - 1) 0

-- These are the arrows of dependences that are kept, one of each, in order, from the lines of their
-- sources.
pub record AreArrows (sources : List ℕ) (kept : List (ℕ × ℕ × ℕ))
    (arrows : List Arrow) : Type 0 where
  pub are : map dependence arrows ≡ kept
  pub from : map (λ a. a.source_line) arrows ≡ map (λ k. source_line sources k.0) kept
