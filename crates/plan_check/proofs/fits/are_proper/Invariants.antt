use Rattle.std.proofs.Common.{◌≡◌, drop}
use Rattle.std.specs.List.{list_all}
use Rattle.plan_check.specs.Checking.{is_proper}
use Rattle.plan_check.proofs.fits.are_proper.Given as goal

abbrev pub invariant-loop-event : goal.invariant-loop-event
invariant-loop-event l = list_all (λ n. is_proper n) (drop l.event-index l.events) ≡ list_all (λ n. is_proper n) l.events
