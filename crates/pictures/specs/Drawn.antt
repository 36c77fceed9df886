-- The picture of a loop: its arrows, and what it has beside them.
use Rattle.std.specs.Prelude.{◌≡◌, ℕ, codes, List, ◌++◌}
use Rattle.arrows.specs.Arrows.{arrows}
use Rattle.arrows.specs.Markup.{marks, opening}
use Rattle.arrows.specs.Vectors.{vectors}
use Rattle.arrows.specs.declared.mark.Mark.{Mark}
use Rattle.arrows.specs.declared.picture.LoopPicture.{LoopPicture}
use Rattle.arrows.specs.declared.svg.Size.{Size}

-- The text is a picture with the arrows of a loop: those of its dependences, and of a serial one
-- the order of its iterations; and with the vectors of its space, if it has one. Beside them it has
-- words, boxes and discs.
pub record IsDrawn (p : LoopPicture) (text : List ℕ) : Type 0 where
  pub size : Size
  pub sheet : List ℕ
  pub front : List Mark
  pub back : List Mark
  pub is : text ≡ opening size sheet ++ (marks front ++ (arrows p ++ vectors p) ++ marks back)
      ++ codes "</svg>\n"
