use Rattle.std.proofs.Common.{◌≡◌, drop}
use Rattle.plan_check.specs.Judging.{is_ahead}
use Rattle.plan_check.proofs.judge.is_ahead.Given as goal

abbrev pub invariant-loop-event : goal.invariant-loop-event
invariant-loop-event l = is_ahead (drop l.event-index l.events) l.free ≡ is_ahead l.events l.free
