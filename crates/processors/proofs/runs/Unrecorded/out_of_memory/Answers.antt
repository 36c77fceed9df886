use Rattle.processors.proofs.Reached.{output_reached}
use Rattle.processors.proofs.runs.Unrecorded.out_of_memory.Goals as goal

pub returns-clause-left : goal.returns-clause-left
returns-clause-left g c =
    output_reached g.C.Call.code g.C.Call.input g.C.Call.processors g.C.Call.slots c.self.inside.run c.into_output.result.items c.self.invariant.0 c.into_output.ensures.reached c.into_output.ensures.output
