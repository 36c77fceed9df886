use Rattle.std.proofs.Common.{◌≡◌, drop}
use Rattle.plan_check.specs.Judging.{is_held}
use Rattle.plan_check.proofs.judge.is_held.Given as goal

abbrev pub invariant-loop-event : goal.invariant-loop-event
invariant-loop-event l = is_held (drop l.event-index l.events) l.free l.near l.distance ≡ is_held l.events l.free l.near l.distance
