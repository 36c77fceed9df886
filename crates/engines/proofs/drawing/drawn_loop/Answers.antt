use Rattle.std.proofs.lemmas.Result.{IfOk-weaker}
use Rattle.std.proofs.Common.{sym}
use Rattle.engines.proofs.Drawings.{of_report}
use Rattle.engines.proofs.drawing.drawn_loop.Goals as goal

pub returns-in-Some : goal.returns-in-Some
returns-in-Some c =
    IfOk-weaker c.drawn_report.result _ _
    (λ drawn draws. of_report _ _ _ _ _ drawn c.requires (sym c.in-Some.ensures) draws)
    c.drawn_report.ensures
