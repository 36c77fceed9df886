-- What `draw` may write of a source text.
use Rattle.std.specs.Prelude.{◌≡◌, ◌==◌, ◌+◌, ◌-◌, ◌≤◌, ◌<◌, ℕ, if◌then◌else◌}
use Rattle.std.specs.Prelude.{List, [], ◌∷◌, length, Option, None, Some, slice_get}
use Rattle.arrows.specs.declared.picture.LoopPicture.{LoopPicture}
use Rattle.ast.specs.Program.{ProgramTree}
use Rattle.codegen.specs.declared.reports.LoopReport.{LoopReport}
use Rattle.dependence.specs.declared.plan.LoopPlan.{LoopPlan}
use Rattle.dependence.specs.declared.plan.LoopPlan.TheVariants.{Serial, Body}
use Rattle.pictures.specs.Dependences.{AreArrows}
use Rattle.pictures.specs.Drawn.{IsDrawn}
use Rattle.engines.specs.Lists.{IsReported}
use Rattle.engines.specs.Prepared.{IsUncoded}
use Rattle.engines.specs.declared.drawing.Portion.{Portion}
use Rattle.engines.specs.declared.drawing.TheConstants.{MOST_ARROWS}
use Rattle.engines.specs.declared.drawn.Drawn.{Drawn}
use Rattle.engines.specs.declared.drawn.Drawn.TheVariants.{Picture, Shown, NoLoop, TooDense}

-- what is kept of a loop, by its report and its plan
abbrev pub kept_of : LoopReport → LoopPlan → List (ℕ × ℕ × ℕ)
kept_of r (Serial reason) = []
kept_of r (Body body privates relations) = r.kept.items

-- the report of the loop of a number, from 1
abbrev pub report_of : List LoopReport → ℕ → Option LoopReport
report_of reports n = if n == 0 then None else slice_get reports (n - 1)

-- how many arrows so many iterations have of what is kept: of each dependence one for each pair of
-- them that is so far apart
abbrev pub arrow_count : ℕ → List (ℕ × ℕ × ℕ) → ℕ
arrow_count columns [] = 0
arrow_count columns (k ∷ kept) = (columns - k.1) + arrow_count columns kept

-- how many arrows the picture of so many iterations of a loop has, beside those of the order of a
-- serial one
abbrev pub arrows_of : LoopReport → ℕ → ℕ
arrows_of r columns = arrow_count columns (kept_of r r.plan)

-- The text is a picture of so many iterations of the loop, with the arrows of what its report says
-- is kept, of which there are not too many.
pub record IsLoopPicture (p : Portion) (r : LoopReport) (text : List ℕ) : Type 0 where
  pub few : arrows_of r p.columns ≤ MOST_ARROWS
  pub picture : LoopPicture
  pub number : picture.number ≡ p.number
  pub line : picture.line ≡ r.line
  pub columns : picture.columns ≡ p.columns
  pub arrows : AreArrows r.sources.items (kept_of r r.plan) picture.arrows.items
  pub drawn : IsDrawn picture text

-- the picture of a loop would have so many arrows, which are too many
pub record IsTooDense (p : Portion) (r : LoopReport) (count : ℕ) : Type 0 where
  pub is : count ≡ arrows_of r p.columns
  pub many : MOST_ARROWS < count

-- what drawing a loop comes to, by its report: its picture exactly where that
-- has not too many arrows
abbrev pub DrawsReport : Portion → LoopReport → Drawn → Type 0
DrawsReport p r (Picture text) = IsLoopPicture p r text.items
DrawsReport p r (TooDense count) = IsTooDense p r count
DrawsReport p r (Shown page) = ⊥
DrawsReport p r (NoLoop count) = ⊥

-- the source reads as a program that has code and such a loop, and this is what drawing it comes to
pub record IsDrawing (source : List ℕ) (p : Portion) (drawn : Drawn) : Type 0 where
  pub tree : ProgramTree
  pub reports : List LoopReport
  pub reported : IsReported source tree reports
  pub report : LoopReport
  pub is : report_of reports p.number ≡ Some report
  pub draws : DrawsReport p report drawn

-- the source reads as a program that has code, with so many loops, and none of this number
pub record LacksLoop (source : List ℕ) (number count : ℕ) : Type 0 where
  pub tree : ProgramTree
  pub reports : List LoopReport
  pub reported : IsReported source tree reports
  pub none : report_of reports number ≡ None
  pub loops : count ≡ length reports

-- what `draw` comes to: a picture for OUT, what standard output has, or that there is no such loop,
-- or one whose picture would have too many arrows
abbrev pub Draws : (source : List ℕ) → Portion → Drawn → Type 0
Draws source p (Picture text) = IsDrawing source p (Picture text)
Draws source p (Shown page) = IsUncoded source page.outcome page.text.items
Draws source p (NoLoop count) = LacksLoop source p.number count
Draws source p (TooDense count) = IsDrawing source p (TooDense count)
