use Rattle.processors.proofs.Keeping.{output_of}
use Rattle.processors.proofs.runs.Recorded.out_of_memory.Goals as goal

pub returns : goal.returns
returns g c =
    let parts = c.into_parts-output.ensures in
    output_of g.C.Call.code g.C.Call.input g.C.Call.processors g.C.Call.slots c.self.inside.core c.into_parts-output.result.0.items c.self.invariant.0 parts.recorded.replays parts.recorded.kept parts.output
