use Rattle.engines.proofs.Counts.{few_loops}
use Rattle.engines.proofs.told.told.Goals as goal

pub accepted-requires : goal.accepted-requires
accepted-requires c =
    let judged = rw c.in-Accepted.is at c.requires in
    few_loops judged.0 _ judged.1
