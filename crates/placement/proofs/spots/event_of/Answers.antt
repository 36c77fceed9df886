use Rattle.placement.proofs.Insertion.{event_found, event_missed}
use Rattle.placement.proofs.spots.event_of.Goals as goal

pub returns-in-Ok : goal.returns-in-Ok
returns-in-Ok c = event_found c.args.source c.args.sources.now c.in-Ok.place c.in-Ok.ensures.position

pub returns-in-Err : goal.returns-in-Err
returns-in-Err c = event_missed c.args.source c.args.sources.now c.in-Err.place c.in-Err.ensures.position
