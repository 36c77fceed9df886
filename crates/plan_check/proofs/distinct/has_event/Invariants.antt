use Rattle.std.proofs.Common.{◌≡◌, drop}
use Rattle.plan_check.specs.Judging.{has_event}
use Rattle.plan_check.proofs.distinct.has_event.Given as goal

abbrev pub invariant-loop-other : goal.invariant-loop-other
invariant-loop-other l = has_event (drop l.other-index l.events) l.event ≡ has_event l.events l.event
