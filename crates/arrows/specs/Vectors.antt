-- The vectors of a two-dimensional iteration space: from sources to sinks, these and no others.
use Rattle.std.specs.Prelude.{◌==◌, ◌&&◌, ◌+◌, ◌*◌, ◌-◌, ◌/◌, ℕ, suc, zero, nat_le, if◌then◌else◌}
use Rattle.std.specs.Prelude.{codes, decimal, List, [], ◌∷◌, ◌++◌, length, Option, Some, None}
use Rattle.arrows.specs.Arrows.{hue}
use Rattle.arrows.specs.Markup.{point}
use Rattle.arrows.specs.declared.picture.LoopPicture.{LoopPicture}
use Rattle.arrows.specs.declared.picture.Space.{Space}
use Rattle.arrows.specs.declared.picture.Vector.{Vector}
use Rattle.arrows.specs.declared.places.TheConstants.{LEFT, PITCH, STEP, TOP}
use Rattle.arrows.specs.declared.vectors.Grid.{Grid}
use Rattle.arrows.specs.declared.vectors.Spot.{Spot}
use Rattle.arrows.specs.declared.vectors.TheConstants.{ABOVE, DROP, HALF}
use Rattle.arrows.specs.declared.svg.Point.{Point}

-- ---- where they go

-- the sources of a vector are the iterations that have one so far from them; the nth of these in an
-- iteration of the outer loop, and its sink
abbrev pub source : Vector → (outer n : ℕ) → Spot
source v outer n = record { outer = outer; inner = n + v.up }

abbrev pub sink : Vector → (outer n : ℕ) → Spot
sink v outer n = record { outer = outer + v.over; inner = n + v.down }

-- ---- how they look

-- the middle of a point: iterations of the outer loop go to the right, those of the inner down
abbrev pub middle : (top : ℕ) → Spot → Point
middle top s = record { x = LEFT + HALF + STEP * s.outer; y = top + DROP * s.inner }

-- over more than one iteration of a loop it passes beside the points between its ends
abbrev pub bow : Vector → ℕ
bow v = if nat_le v.over 1 && nat_le v.down 1 && nat_le v.up 1 then 0 else 24

-- the point between two, or so far to the right and below
abbrev pub control : (from to : Point) → ℕ → Point
control from to bow = record { x = (from.x + to.x) / 2 + bow; y = (from.y + to.y) / 2 + bow }

abbrev pub begun : Point → List ℕ
begun from = codes "<path d=\"M" ++ point from ++ codes " Q"

abbrev pub ended : (by to : Point) → List ℕ
ended by to = point by ++ point to ++ codes "\"/>"

-- the text of a vector from a point to another
abbrev pub line : (from to : Point) → ℕ → List ℕ
line from to bow = begun from ++ ended (control from to bow) to

-- that of the nth source in an iteration of the outer loop
abbrev pub stroke : (top : ℕ) → Vector → (outer n : ℕ) → List ℕ
stroke top v outer n = line (middle top (source v outer n)) (middle top (sink v outer n)) (bow v)

-- texts by their numbers, so many of them
abbrev pub each : ℕ → (ℕ → List ℕ) → List ℕ
each zero text = []
each (suc n) text = each n text ++ text n

abbrev pub strokes_in : Grid → Vector → ℕ → List ℕ
strokes_in g v outer = each (g.rows - v.down - v.up) (stroke g.top v outer)

abbrev pub strokes : Grid → Vector → List ℕ
strokes g v = each (g.columns - v.over) (strokes_in g v)

-- ---- of what they are

-- a distance of the inner loop: earlier iterations have a sign
abbrev pub along : (down up : ℕ) → List ℕ
along down up = if up == 0 then decimal down else codes "-" ++ decimal up

abbrev pub pair : Vector → List ℕ
pair v = codes "(" ++ decimal v.over ++ codes "," ++ along v.down v.up ++ codes ")"

-- what a vector's group begins with; within one iteration of the outer loop it
-- is the inner one's own
abbrev pub kind : Vector → List ℕ
kind v = if v.over == 0 then codes "<g class=\"vector own hue" else codes "<g class=\"vector hue"

abbrev pub head : ℕ → Vector → List ℕ
head n v = kind v ++ decimal (hue n) ++ codes "\"><title>" ++ pair v ++ codes "</title>"

-- the vector of a number, with its strokes
abbrev pub group : Grid → ℕ → Vector → List ℕ
group g n v = head n v ++ strokes g v ++ codes "</g>\n"

-- the first has the number 1
abbrev pub groups : Grid → ℕ → List Vector → List ℕ
groups g n [] = []
groups g n (v ∷ vs) = group g n v ++ groups g (n + 1) vs

-- the space is below the rows of a loop's picture
abbrev pub grid_of : LoopPicture → Space → Grid
grid_of p s =
    record { top = TOP + PITCH * length p.rows.items + ABOVE; columns = p.columns; rows = s.rows }

-- all vectors of a loop's picture, if it has a space
abbrev pub vectors_if : LoopPicture → Option Space → List ℕ
vectors_if p None = []
vectors_if p (Some s) = groups (grid_of p s) 1 s.vectors.items

abbrev pub vectors : LoopPicture → List ℕ
vectors p = vectors_if p p.space
