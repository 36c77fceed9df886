use Rattle.std.proofs.Common.{◌≡◌, drop}
use Rattle.std.specs.List.{list_all}
use Rattle.plan_check.specs.Flow.{flag_at}
use Rattle.plan_check.proofs.advances.all_advanced.Given as goal

abbrev pub invariant-loop-event : goal.invariant-loop-event
invariant-loop-event l = list_all (λ n. flag_at l.advanced n.0) (drop l.event-index l.events) ≡ list_all (λ n. flag_at l.advanced n.0) l.events
