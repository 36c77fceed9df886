-- What drawing a loop comes to, by its report, is what drawing it of its source does.
use Rattle.std.proofs.Common.{◌≡◌, ℕ, List, Some}
use Rattle.ast.specs.Program.{ProgramTree}
use Rattle.codegen.specs.declared.reports.LoopReport.{LoopReport}
use Rattle.engines.specs.Drawing.{Draws, DrawsReport, report_of}
use Rattle.engines.specs.Lists.{IsReported}
use Rattle.engines.specs.declared.drawing.Portion.{Portion}
use Rattle.engines.specs.declared.drawn.Drawn.{Drawn}
use Rattle.engines.specs.declared.drawn.Drawn.TheVariants.{Picture, Shown, NoLoop, TooDense}

pub of_report : (source : List ℕ) (p : Portion) (tree : ProgramTree) (reports : List LoopReport) (report : LoopReport) (drawn : Drawn)
    → IsReported source tree reports → report_of reports p.number ≡ Some report → DrawsReport p report drawn → Draws source p drawn
of_report source p tree reports report (Picture text) reported is draws =
    record { tree = tree; reports = reports; reported = reported; report = report; is = is; draws = draws }
of_report source p tree reports report (TooDense count) reported is draws =
    record { tree = tree; reports = reports; reported = reported; report = report; is = is; draws = draws }
of_report source p tree reports report (Shown page) reported is draws = absurd draws
of_report source p tree reports report (NoLoop count) reported is draws = absurd draws
