use Rattle.std.proofs.Common.{◌∙◌, ◌++◌, List, ℕ, sym, ap}
use Rattle.unrecorded.specs.View.{point_at}
use Rattle.processors.proofs.Reached.{reached_in}
use Rattle.processors.proofs.runs.UnrecordedDriven.tell.Goals as goal

pub take-requires : goal.take-requires
take-requires g c = λ on.
    let run = c.self.inside.run in
    let here = reached_in g.C.Call.code g.C.Call.input g.C.Call.processors g.C.Call.slots run c.self.invariant.0 c.output.ensures.reached in
    let begins = c.self.invariant.1 on c.self.invariant.0.sizes (point_at run).machine here in
    (begins.0, begins.1 ∙ ap (λ (z : List ℕ). z ++ begins.0) (sym c.output.ensures.output))
