use Rattle.std.proofs.Common.{◌≡◌, ◌||◌, ℕ, Bool, drop}
use Rattle.std.specs.List.{list_any}
use Rattle.plan_check.proofs.distinct.distinct.Given as goal

abbrev pub invariant-loop-event : goal.invariant-loop-event
invariant-loop-event l = (test : ℕ → Bool) → (list_any test l.events.items || list_any (λ n. test n.0) (drop l.event-index l.named)) ≡ list_any (λ n. test n.0) l.named
