-- The arrows of a loop's picture: these and no others.
use Rattle.std.specs.Prelude.{◌==◌, ◌&&◌, ◌%◌, ◌+◌, ◌*◌, ◌-◌, ℕ, suc, zero, nat_le}
use Rattle.std.specs.Prelude.{if◌then◌else◌, codes, decimal, List, [], ◌∷◌}
use Rattle.std.specs.Prelude.{◌++◌, length, Option, Some, None, Vec, option_map}
use Rattle.std.specs.Global.{Global}
use Rattle.arrows.specs.Markup.{curve}
use Rattle.arrows.specs.declared.picture.Advance.{Advance}
use Rattle.arrows.specs.declared.picture.Arrow.{Arrow}
use Rattle.arrows.specs.declared.picture.LoopPicture.{LoopPicture}
use Rattle.arrows.specs.declared.picture.Row.{Row}
use Rattle.arrows.specs.declared.places.Ends.{Ends}
use Rattle.arrows.specs.declared.places.Place.{Place}
use Rattle.arrows.specs.declared.places.TheConstants.{ACROSS, LEFT, MIDDLE, PITCH, STEP, TIP}
use Rattle.arrows.specs.declared.svg.Point.{Point}

-- ---- where they go

-- an arrow from a place to a row of the iteration so many later
pub record Way : Type 0 where
  pub from : Place
  pub over : ℕ
  pub row : ℕ

-- the place to which it goes
abbrev pub to : Way → Place
to w = record { column = w.from.column + w.over; row = w.row }

-- between these rows, from an iteration on
abbrev pub arrow_in : Ends → ℕ → ℕ → Way
arrow_in e distance k =
    record { from = record { column = k; row = e.source }; over = distance; row = e.sink }

-- the first row in which a line stands, by the number of the first row
abbrev pub row_from : ℕ → List Row → ℕ → Option ℕ
row_from n [] line = None
row_from n (r ∷ rows) line = if r.line == line then Some n else row_from (n + 1) rows line

abbrev pub between : Option ℕ → Option ℕ → Option Ends
between (Some source) (Some sink) = Some (record { source = source; sink = sink })
between (Some source) None = None
between None sink = None

-- the first row from that of an event's source on behind which the event is advanced; that of the
-- source where there is none
abbrev pub leaving : List Advance → (event source : ℕ) → ℕ
leaving [] event source = source
leaving (a ∷ advances) event source =
    if a.event == event && nat_le source a.row then a.row else leaving advances event source

-- between the row where the event is advanced and the one that stands behind
abbrev pub ends_of : List Row → List Advance → Arrow → Option Ends
ends_of rows advances a =
    between (option_map (leaving advances a.event) (row_from 0 rows a.source_line))
    (row_from 0 rows a.sink_line)

-- from the last row of an iteration to the first one of the next
abbrev pub in_turn : List Row → Ends
in_turn rows = record { source = length rows - 1; sink = 0 }

-- ---- how they look

-- the middle of the right edge of a place's box, and where the tip of an arrow to it begins
abbrev pub exit : Place → Point
exit p = record { x = LEFT + STEP * p.column + ACROSS; y = MIDDLE + PITCH * p.row }

abbrev pub tip : Place → Point
tip p = record { x = LEFT + STEP * p.column - TIP; y = MIDDLE + PITCH * p.row }

-- over so many iterations it passes below the boxes between its ends
abbrev pub bend : ℕ → ℕ
bend distance = if nat_le distance 1 then 0 else 24

-- the text of an arrow: a curve from the box that it leaves to the one to which it goes
abbrev pub stroke : Way → List ℕ
stroke w = curve (exit w.from) (tip (to w)) (bend w.over)

-- the arrows of a kind that begin in the first so many iterations
abbrev pub strokes : ℕ → (ℕ → Way) → List ℕ
strokes zero way = []
strokes (suc n) way = strokes n way ++ stroke (way n)

-- the arrows between two rows, from each of so many iterations that has one so far on
abbrev pub strokes_between : Ends → ℕ → ℕ → List ℕ
strokes_between e distance columns = strokes (columns - distance) (arrow_in e distance)

abbrev pub strokes_of : ℕ → ℕ → Option Ends → List ℕ
strokes_of columns distance None = []
strokes_of columns distance (Some e) = strokes_between e distance columns

-- ---- of what they are

-- one of six hues for each event
abbrev pub hue : ℕ → ℕ
hue event = event % 6

-- a dependence in words: its lines, and its distance and event
abbrev pub lines : Arrow → List ℕ
lines a =
    codes "what line " ++ decimal a.source_line ++ codes " does in an iteration comes before line "
    ++ decimal a.sink_line

abbrev pub span : Arrow → List ℕ
span a =
    codes " of the iteration " ++ decimal a.distance ++ codes " later, by event " ++ decimal a.event

-- what a dependence's group begins with
abbrev pub hued : Arrow → List ℕ
hued a = codes "<g class=\"arrow hue" ++ decimal (hue a.event) ++ codes "\"><title>"

abbrev pub head : Arrow → List ℕ
head a = ((hued a ++ lines a) ++ span a) ++ codes "</title>"

-- a dependence with its arrows
abbrev pub group : ℕ → List Row → List Advance → Arrow → List ℕ
group columns rows advances a =
    head a ++ strokes_of columns a.distance (ends_of rows advances a) ++ codes "</g>\n"

abbrev pub groups : ℕ → List Row → List Advance → List Arrow → List ℕ
groups columns rows advances [] = []
groups columns rows advances (a ∷ others) =
    group columns rows advances a ++ groups columns rows advances others

-- each iteration comes behind the one before
abbrev pub one_by_one : ℕ → List Row → List ℕ
one_by_one columns rows =
    codes "<g class=\"order\"><title>one iteration after another</title>"
    ++ strokes_between (in_turn rows) 1 columns ++ codes "</g>\n"

abbrev pub order_if : Option (Vec ℕ Global) → List ℕ → List ℕ
order_if None text = []
order_if (Some reason) text = text

-- the order of a loop's iterations, where it stays serial
abbrev pub order : LoopPicture → List ℕ
order p = order_if p.serial (one_by_one p.columns p.rows.items)

-- all arrows of a loop's picture: those of the order, where it is serial, and then each group
abbrev pub arrows : LoopPicture → List ℕ
arrows p = order p ++ groups p.columns p.rows.items p.advances.items p.arrows.items
