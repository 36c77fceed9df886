use Rattle.doac.proofs.Onto.{not_written, written}
use Rattle.doac.proofs.models.write_timing.Goals as goal

pub returns-in-Ok : goal.returns-in-Ok
returns-in-Ok g c = written _ _ _ _ _ _ _ _ _ _ c.schedule_text.ensures c.in-Ok.ensures c.write_shown.ensures

pub returns-in-Err : goal.returns-in-Err
returns-in-Err g c = not_written _ _ _ _ _ _ _ _ _ c.schedule_text.ensures c.in-Err.ensures
