-- What is reported of a program's loops.
use Rattle.std.specs.Prelude.{◌≡◌, ◌==◌, ◌+◌, ⊤, ℕ, Bool, if◌then◌else◌, List}
use Rattle.std.specs.Prelude.{[], ◌∷◌, ◌++◌, map, Option, Some, None, slice_get}
use Rattle.ast.specs.Program.{ProgramTree}
use Rattle.dependence.specs.Plan.{PlanTree}
use Rattle.dependence.specs.PlanView.{plan_of}
use Rattle.loop_tree.specs.Loops.{Loop, loops_of}
use Rattle.loop_tree.specs.Occurrences.{block_lines}
use Rattle.placement.specs.Judged.{IsInside, IsPlaced}
use Rattle.placement.specs.Placement.{IsPlacement, loops_around}
use Rattle.placement.specs.declared.analysis.Kept.{Kept}
use Rattle.placement.specs.declared.planning.Placed.{Placed}
use Rattle.plan_check.specs.Checks.{HasBody, HasNamesOnce, IsGood}
use Rattle.codegen.specs.Program.{Planned}
use Rattle.codegen.specs.declared.reports.LoopReport.{LoopReport}

-- a line, 0 where there is none
abbrev pub line_or_none : Option ℕ → ℕ
line_or_none None = 0
line_or_none (Some line) = line

-- the line of a statement, by the lines of all; 0 where there is no such statement
abbrev pub line_at : List ℕ → ℕ → ℕ
line_at lines statement = line_or_none (slice_get lines statement)

-- the number of a source's event, where that of the first source is k
abbrev pub event_of : ℕ → List ℕ → ℕ → ℕ
event_of k [] source = k
event_of k (s ∷ ss) source = if s == source then k else event_of (k + 1) ss source

-- an event, the distance at which it is awaited, and the sink's line
abbrev pub kept_line : List ℕ → List ℕ → Kept → ℕ × ℕ × ℕ
kept_line lines sources k = (event_of 1 sources k.source, k.distance, line_at lines k.sink)

-- the report of a loop with this line, by what placement gives for it
pub record IsReport (lines : List ℕ) (line : ℕ) (placed : Placed)
    (report : LoopReport) : Type 0 where
  pub line_is : report.line ≡ line
  pub plan_is : report.plan ≡ placed.plan
  pub sources_are : report.sources.items ≡ map (line_at lines) placed.sources.items
  pub kept_are : report.kept.items ≡ map (kept_line lines placed.sources.items) placed.kept.items

-- A report of what placement gives for a loop of a program with these loops; the check of plans
-- accepts it.
pub record IsPlacedReport (all : List Loop) (lines : List ℕ) (l : Loop)
    (report : LoopReport) : Type 0 where
  pub inside : Bool
  pub is_inside : IsInside (loops_around all l) inside
  pub placed : Placed
  pub is_placed : IsPlaced l inside placed
  pub plan : IsPlacement all l report.plan
  pub good : IsGood l (plan_of report.plan)
  pub body : HasBody l (plan_of report.plan)
  pub once : HasNamesOnce (plan_of report.plan)
  pub reported : IsReport lines l.line placed report

-- each of these loops has its report, in order
abbrev pub AreReports : List Loop → List ℕ → List Loop → List LoopReport → Type 0
AreReports all lines [] [] = ⊤
AreReports all lines (l ∷ ls) (r ∷ rs) = IsPlacedReport all lines l r × AreReports all lines ls rs
AreReports all lines ls rs = ⊥

-- the loops that are opened, by their reports: those whose plans have a body, in order
abbrev pub planned_by : Loop → Option PlanTree → List Planned
planned_by l None = []
planned_by l (Some p) = record { loop = l; plan = p } ∷ []

-- of several loops with their reports
abbrev pub planned_in : List Loop → List LoopReport → List Planned
planned_in [] rs = []
planned_in (l ∷ ls) [] = []
planned_in (l ∷ ls) (r ∷ rs) = planned_by l (plan_of r.plan) ++ planned_in ls rs

-- the loops of a program that are opened
abbrev pub opened_of : ProgramTree → List LoopReport → List Planned
opened_of t reports = planned_in (loops_of t.block) reports

-- the reports of a program's loops
abbrev pub Reports : ProgramTree → List LoopReport → Type 0
Reports t reports = AreReports (loops_of t.block) (block_lines t.block) (loops_of t.block) reports
