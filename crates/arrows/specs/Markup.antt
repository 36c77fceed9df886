-- The elements of an SVG file. Lengths are in pixels, from the top and the left.
use Rattle.std.specs.Prelude.{◌+◌, ◌-◌, ℕ, codes, decimal, List, [], ◌∷◌, ◌++◌, Option, Some, None}
use Rattle.arrows.specs.Escaped.{escaped}
use Rattle.arrows.specs.declared.mark.Class.{Class}
use Rattle.arrows.specs.declared.mark.Mark.{Mark}
use Rattle.arrows.specs.declared.mark.Mark.TheVariants.{Words, Tile, Disc}
use Rattle.arrows.specs.declared.svg.Point.{Point}
use Rattle.arrows.specs.declared.svg.Size.{Size}

-- an attribute, by what stands before its number
abbrev pub attribute : List ℕ → ℕ → List ℕ
attribute front value = front ++ decimal value ++ codes "\""

abbrev pub at_point : Point → List ℕ
at_point p = attribute (codes " x=\"") p.x ++ attribute (codes " y=\"") p.y

abbrev pub sized : Size → List ℕ
sized s = attribute (codes " width=\"") s.width ++ attribute (codes " height=\"") s.height

abbrev pub hue_text : Option ℕ → List ℕ
hue_text None = []
hue_text (Some h) = codes " hue" ++ decimal h

abbrev pub name_text : Class → List ℕ
name_text c = escaped c.name.now

-- the beginning of an element up to its class, by what stands before that
abbrev pub classed : List ℕ → Class → List ℕ
classed front c = (front ++ name_text c) ++ hue_text c.hue ++ codes "\""

abbrev pub title : List ℕ → List ℕ
title text = codes "<title>" ++ escaped text ++ codes "</title>"

-- ---- marks, none of which is an arrow

abbrev pub said : List ℕ → List ℕ
said text = codes ">" ++ escaped text ++ codes "</text>\n"

-- the text of words at a point
abbrev pub words : Class → Point → List ℕ → List ℕ
words c p text = classed (codes "<text class=\"") c ++ at_point p ++ said text

abbrev pub cornered : Class → Point → List ℕ
cornered c p = classed (codes "<rect class=\"") c ++ at_point p

abbrev pub tile_title : List ℕ → List ℕ
tile_title text = codes " rx=\"3\">" ++ title text ++ codes "</rect>\n"

-- a box of a size at a point, with a title
abbrev pub tile : Class → Point → Size → List ℕ → List ℕ
tile c p s text = cornered c p ++ sized s ++ tile_title text

abbrev pub ring : Class → List ℕ → List ℕ
ring c text = classed (codes "<g class=\"") c ++ codes ">" ++ title text

abbrev pub center : Point → List ℕ
center p = attribute (codes " cx=\"") p.x ++ attribute (codes " cy=\"") p.y

abbrev pub circle : Point → List ℕ
circle p = codes "<circle r=\"9\"" ++ center p ++ codes "/>"

abbrev pub inner : ℕ → List ℕ
inner n = codes ">" ++ decimal n ++ codes "</text></g>\n"

abbrev pub number_in : Point → ℕ → List ℕ
number_in p n = codes "<text class=\"number\" dy=\"4\"" ++ at_point p ++ inner n

-- a disc around a point, with a number in it and a title
abbrev pub disc : Class → Point → ℕ → List ℕ → List ℕ
disc c p n text = ring c text ++ circle p ++ number_in p n

-- the text of a mark: words, a box or a disc
abbrev pub mark : Mark → List ℕ
mark (Words c p text) = words c p text.items
mark (Tile c p s text) = tile c p s text.items
mark (Disc c p n text) = disc c p n text.items

-- marks one after another
abbrev pub marks : List Mark → List ℕ
marks [] = []
marks (m ∷ ms) = mark m ++ marks ms

-- ---- arrows

-- the coordinates of a point, as a path has them
abbrev pub point : Point → List ℕ
point p = codes " " ++ decimal p.x ++ codes " " ++ decimal p.y

-- the point so far to the right and below
abbrev pub beside : Point → ℕ → ℕ → Point
beside p right below = record { x = p.x + right; y = p.y + below }

-- the point so far to the left and below
abbrev pub before : Point → ℕ → ℕ → Point
before p left below = record { x = p.x - left; y = p.y + below }

abbrev pub start : Point → List ℕ
start from = codes "<path d=\"M" ++ point from ++ codes " C"

abbrev pub bent : Point → Point → ℕ → List ℕ
bent from to bend = point (beside from 22 bend) ++ point (before to 22 bend) ++ point to

-- a curve from a point to another one
abbrev pub curve : Point → Point → ℕ → List ℕ
curve from to bend = start from ++ bent from to bend ++ codes "\"/>"

-- ---- the whole file

abbrev pub root : Size → List ℕ
root s = codes "<svg xmlns=\"http://www.w3.org/2000/svg\" role=\"img\"" ++ sized s ++ codes ">\n"

-- what it begins with: its size, a style sheet with the tips of arrows, and the ground
abbrev pub opening : Size → List ℕ → List ℕ
opening s sheet =
    root s ++ sheet ++ codes "<rect class=\"ground\" width=\"100%\" height=\"100%\"/>\n"
