use Rattle.doac.proofs.Onto.{allowed, not_allowed}
use Rattle.doac.proofs.threads.run_files.Goals as goal

pub returns-in-Ok : goal.returns-in-Ok
returns-in-Ok g c = allowed _ _ _ _ _ _ _ _ _ _ _ c.in-Ok.ensures c.run_read.ensures

pub returns-in-Err : goal.returns-in-Err
returns-in-Err g c = not_allowed _ _ _ _ _ _ _ _ _ c.in-Err.ensures
